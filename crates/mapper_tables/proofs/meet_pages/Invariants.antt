use mathlib.Core.Path.{◌≡◌}
use mathlib.Core.Bool.{true}
use Rattle.mapper_marks.specs.Marking.{run, meet_all}
use Rattle.mapper_tables.specs.Reached.{pages_from}
use Rattle.mapper_tables.proofs.meet_pages.Given as goal

abbrev pub invariant-loop-k : goal.invariant-loop-k
invariant-loop-k l =
    run true l.left l.marks ≡ meet_all l.limits (pages_from l.page l.k) (run true l.initial.left l.initial.marks)
