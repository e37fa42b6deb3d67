use Rattle.std.proofs.Common.{◌+◌, ◌-◌, ◌≤◌, length}
use Rattle.show.proofs.show_part.Given as goal

abbrev pub invariant-loop-next : goal.invariant-loop-next
invariant-loop-next l = record { within : l.s.at ≤ length l.part; few : l.s.index ≤ l.index + l.s.at }

abbrev pub decreases-loop-next : goal.decreases-loop-next
decreases-loop-next l = length l.part - l.s.at
