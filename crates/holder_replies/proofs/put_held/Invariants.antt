use Rattle.holder_replies.proofs.Tables.{Rowed}
use Rattle.holder_replies.proofs.put_held.Given as goal

abbrev pub invariant-loop-i : goal.invariant-loop-i
invariant-loop-i l =
    Rowed l.i l.holders l.starts l.lasts l.initial.out l.initial.next l.out l.next
