use Rattle.std.proofs.Common.{true, ◌≡◌, ◌+◌, ◌*◌}
use Rattle.mapper_pages.specs.Pages.{supply, taken, wants_in}
use Rattle.mapper_pages.proofs.+pages.Given as goal

abbrev pub decreases-ask_at : goal.decreases-ask_at
decreases-ask_at l = 2 * l.height

abbrev pub decreases-ask_in : goal.decreases-ask_in
decreases-ask_in l = 2 * l.height + 1

abbrev pub invariant-ask_in-loop-j : goal.invariant-ask_in-loop-j
invariant-ask_in-loop-j l =
    supply true l.image ≡ taken (wants_in l.q l.first l.arena l.fresh l.height l.e l.at l.j) (supply true l.initial.image)
