use Rattle.std.proofs.Common.{true, ◌≡◌, ◌+◌, ◌*◌}
use Rattle.mapper_marks.specs.Marking.{run, meet_all, tables_in}
use Rattle.mapper_marks.proofs.+marks.Given as goal

abbrev pub decreases-mark_at : goal.decreases-mark_at
decreases-mark_at l = 2 * l.height

abbrev pub decreases-mark_in : goal.decreases-mark_in
decreases-mark_in l = 2 * l.height + 1

abbrev pub invariant-mark_in-loop-j : goal.invariant-mark_in-loop-j
invariant-mark_in-loop-j l =
    run true l.left l.marks ≡ meet_all l.limits (tables_in l.first l.arena l.height l.at l.j) (run true l.initial.left l.initial.marks)
