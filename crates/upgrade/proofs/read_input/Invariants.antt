use Rattle.std.proofs.Common.{◌≤◌, length}
use Rattle.upgrade.proofs.read_input.Given as goal

abbrev pub invariant-loop : goal.invariant-loop
invariant-loop l = l.held ≤ length l.buf
