use Prim.Native.Nat.{ℕ, ◌+◌, ◌-◌, ◌≤◌}
use mathlib.Core.Path.{◌≡◌}
use mathlib.Core.Bool.{Bool}
use mathlib.Core.List.{List}
use lib.ListN.{get_or}
use Rattle.std.specs.Prelude.{None}
use Rattle.linked_lists.specs.Links.{steps}
use Rattle.rules.specs.Rules.{size_lists, Range, find, fit, serves, of_list, lists}
use Rattle.pool_state.specs.Shown.{pool, Shelved, Walked}
use Rattle.pool_shelf.proofs.Fits.{mark}
use Rattle.pool_shelf.proofs.find_fit.Given as goal

-- the test of a range
abbrev pub serving : Bool → ℕ → ℕ → Range → Bool
serving spare z o r = serves spare (fit z o r)

abbrev pub invariant-loop-cur : goal.invariant-loop-cur
invariant-loop-cur l =
    (l.hit ≡ None) × ((ls : List Range) (prev : List ℕ) → Shelved pool ls l.start l.end prev l.next l.heads
    → (b : ℕ) × Walked (mark (serving l.spare l.size l.order)) (of_list (l.own + l.head-index) ls) 1 b l.cur.0)

abbrev pub decreases-loop-cur : goal.decreases-loop-cur
decreases-loop-cur l =
    steps (λ i. get_or l.next i 0) pool l.cur.0

abbrev pub invariant-search : goal.invariant-search
invariant-search l =
    (l.own + l.head-index ≤ size_lists) × (l.hit ≡ None) × ((ls : List Range) (prev : List ℕ) → Shelved pool ls l.start l.end prev l.next l.heads
    → find (serving l.spare l.size l.order) ls ≡ find (serving l.spare l.size l.order) (lists (l.own + l.head-index) (size_lists - (l.own + l.head-index)) ls))
