use Prim.Native.Nat.{ℕ}
use mathlib.Core.List.{List}
use lib.ListN.{get_or}
use Rattle.linked_lists.specs.Links.{steps}
use Rattle.rules.specs.Rules.{Range}
use Rattle.pool_state.specs.Shown.{pool}
use Rattle.pool_chain.specs.Chain.{Ordered}
use Rattle.pool_listing.proofs.Walk.{Reached}
use Rattle.pool_listing.proofs.count_entries.Given as goal

abbrev pub invariant-loop-cur : goal.invariant-loop-cur
invariant-loop-cur l =
    (c : List Range) (start end : List ℕ) → Ordered pool c start end l.next l.initial.cur.0 → Reached c l.count l.cur.0

abbrev pub decreases-loop-cur : goal.decreases-loop-cur
decreases-loop-cur l =
    steps (λ i. get_or l.next i 0) pool l.cur.0
