use Rattle.std.proofs.Common.{◌-◌, length}
use Rattle.record.specs.Taping.{Placed}
use Rattle.record.proofs.tape_chunk.Given as goal

abbrev pub invariant-loop-s : goal.invariant-loop-s
invariant-loop-s l = Placed l.s l.carry l.out

abbrev pub decreases-loop-s : goal.decreases-loop-s
decreases-loop-s l = length l.chunk - l.s.from
