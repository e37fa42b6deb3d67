use Rattle.script_replies.proofs.Tables.{Rowed}
use Rattle.script_replies.proofs.put_table.Given as goal

abbrev pub invariant-loop-i : goal.invariant-loop-i
invariant-loop-i l =
    Rowed l.i l.starts l.lasts l.initial.out l.initial.next l.out l.next
