use Rattle.std.proofs.Common.{◌*◌, ◌≤◌, length}
use Rattle.show.proofs.show_all.Given as goal

abbrev pub invariant-loop-turns : goal.invariant-loop-turns
invariant-loop-turns l = record { held : l.s.held ≤ length l.buf; index : l.s.index ≤ l._turns * 65536 }
