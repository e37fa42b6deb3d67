use mathlib.Core.Path.{◌≡◌}
use mathlib.Core.List.{List}
use lib.ListN.{get_or}
use Rattle.linked_lists.specs.Links.{head, steps}
use Rattle.rules.specs.Rules.{Range, size}
use Rattle.pool_state.specs.Shown.{pool, numbers, Runs, Walked}
use Rattle.pool_shelf.proofs.find_gap.Given as goal

abbrev pub invariant-loop-cur : goal.invariant-loop-cur
invariant-loop-cur l =
    (ls : List Range) → Runs pool ls l.start l.end l.next → l.initial.cur.0 ≡ head (numbers ls) → Walked size ls l.s l.before.0 l.cur.0

abbrev pub decreases-loop-cur : goal.decreases-loop-cur
decreases-loop-cur l =
    steps (λ i. get_or l.next i 0) pool l.cur.0
