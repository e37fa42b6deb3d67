use Prim.Native.Nat.{ℕ, ◌<◌}
use mathlib.Core.List.{List}
use native.Mathlib.Omega.{arith}
use lib.Dec.{lit≤}
use lib.ListN.{length}
use Rattle.rules.specs.Rules.{Range}
use Rattle.pool_state.specs.Shown.{pool}
use Rattle.pool_chain.specs.Chain.{Ordered}
use Rattle.pool_listing.proofs.Walk.{reached-start, one_more, few, reached-known, reached-on, reached-less, reached-end}
use Rattle.pool_listing.proofs.count_entries.Goals.{In-loop-cur}
use Rattle.pool_listing.proofs.count_entries.Goals as goal

pub loop-cur-init : goal.loop-cur-init
loop-cur-init c l start end o =
    reached-start l _ o.leads

-- in a turn, the walk has a range before it
more : (c : In-loop-cur) → let x = c.args in let w = c.loop-cur in (l : List Range) (start end : List ℕ) → Ordered pool l start end x.next.now x.first.0 → w.count < length l
more c l start end o = one_more l _ _ (c.loop-cur.invariant l start end o) c.loop-cur-test.true

pub overflow_add-count : goal.overflow_add-count
overflow_add-count c =
    let u = c.requires in
    omega (arith, more (goal.at.overflow_add-count c).In-loop-cur u.0 u.1 u.2 u.3, few pool u.0 u.3.runs.listed)

pub link_of-cur-requires : goal.link_of-cur-requires
link_of-cur-requires c =
    let u = c.requires in
    reached-known pool (lit≤ tt) u.0 _ _ _ u.3.runs _ _ (c.loop-cur.invariant u.0 u.1 u.2 u.3) (more (goal.at.link_of-cur-requires c).In-loop-cur u.0 u.1 u.2 u.3)

pub loop-cur-smaller : goal.loop-cur-smaller
loop-cur-smaller c =
    let u = c.requires in
    rw c.link_of-cur.ensures (reached-less pool (lit≤ tt) u.0 _ _ _ u.3.runs _ _ (c.loop-cur.invariant u.0 u.1 u.2 u.3) (more (goal.at.loop-cur-smaller c).In-loop-cur u.0 u.1 u.2 u.3))

pub loop-cur-preserved : goal.loop-cur-preserved
loop-cur-preserved c l start end o =
    rw c.link_of-cur.ensures (reached-on pool (lit≤ tt) l _ _ _ o.runs _ _ (c.loop-cur.invariant l start end o) (more (goal.at.loop-cur-preserved c).In-loop-cur l start end o))

pub returns : goal.returns
returns c l start end o =
    reached-end pool (lit≤ tt) l _ _ _ o.runs _ _ (c.loop-cur.invariant l start end o) c.loop-cur-test.false
