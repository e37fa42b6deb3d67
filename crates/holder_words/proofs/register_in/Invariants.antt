use Rattle.holder_words.proofs.Storing.{Read}
use Rattle.holder_words.proofs.register_in.Given as goal

abbrev pub invariant-loop-i : goal.invariant-loop-i
invariant-loop-i l =
    Read l.words l.register.entries l.i
