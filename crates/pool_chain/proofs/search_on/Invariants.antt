use Prim.Native.Nat.{ℕ}
use mathlib.Core.List.{List}
use lib.ListN.{get_or}
use Rattle.linked_lists.specs.Links.{steps}
use Rattle.rules.specs.Rules.{Range, start_of}
use Rattle.pool_state.specs.Shown.{pool, Runs, Walked}
use Rattle.pool_chain.proofs.search_on.Given as goal

abbrev pub invariant-loop-cur : goal.invariant-loop-cur
invariant-loop-cur l =
    (c : List Range) (end : List ℕ) → Runs pool c l.start end l.next → Walked start_of c l.address.0 l.initial.before.0 l.initial.cur.0 → Walked start_of c l.address.0 l.before.0 l.cur.0

abbrev pub decreases-loop-cur : goal.decreases-loop-cur
decreases-loop-cur l =
    steps (λ i. get_or l.next i 0) pool l.cur.0
