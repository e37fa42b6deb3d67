use Rattle.mapper_free.specs.Free.{touches, Adds}
use Rattle.mapper_free.proofs.mark_free.Given as goal

abbrev pub invariant-loop-i : goal.invariant-loop-i
invariant-loop-i l =
    Adds l.lo (touches l.starts l.lasts l.i) l.initial.marks l.marks
