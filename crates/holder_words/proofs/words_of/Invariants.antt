use Rattle.holder_words.proofs.Storing.{Stored}
use Rattle.holder_words.proofs.words_of.Given as goal

abbrev pub invariant-loop-i : goal.invariant-loop-i
invariant-loop-i l =
    Stored l.register.entries l.words l.i
