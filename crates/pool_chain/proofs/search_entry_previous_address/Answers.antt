use mathlib.Core.List.{List}
use Prim.Native.Nat.{ℕ}
use lib.Dec.{lit≤}
use Rattle.rules.specs.Rules.{Range, start_of}
use Rattle.pool_state.specs.Shown.{pool, Walked}
use Rattle.pool_chain.specs.Chain.{Ordered}
use Rattle.pool_chain.proofs.Nearest.{begins}
use Rattle.pool_chain.proofs.search_entry_previous_address.Goals.{After-entry_after-high}
use Rattle.pool_chain.proofs.search_entry_previous_address.Goals as goal

pub entry_after-high-requires : goal.entry_after-high-requires
entry_after-high-requires c h =
    (c.nearest_below-low.ensures h).0

-- the search begins in the chain, at a place that is not past the address
begun : (c : After-entry_after-high) → let x = c.args in (l : List Range) (end : List ℕ) → Ordered pool l x.start.now end x.next.now x.first.0 → Walked start_of l x.address.0 c.nearest_below-low.result.0 c.entry_after-high.result.0
begun c l end o = rw c.entry_after-high.ensures (begins pool (lit≤ tt) l _ end _ _ o _ _ c.nearest_below-low.ensures)

pub search_on-requires : goal.search_on-requires
search_on-requires c =
    let u = c.requires in
    (u.0, u.1, u.2.runs, begun (goal.at.search_on-requires c).After-entry_after-high u.0 u.1 u.2)

pub returns : goal.returns
returns c l end o =
    c.search_on.ensures l end o.runs (begun (goal.at.returns c).After-entry_after-high l end o)
