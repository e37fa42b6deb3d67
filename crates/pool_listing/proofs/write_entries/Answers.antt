use Prim.Native.Nat.{◌<◌}
use mathlib.Core.List.{List}
use mathlib.Core.Path.{refl}
use native.Mathlib.Omega.{arith}
use lib.Dec.{lit≤}
use lib.ListN.{length, length-set}
use Rattle.rules.specs.Rules.{Range}
use Rattle.pool_state.specs.Shown.{pool}
use Rattle.pool_listing.specs.Listing.{Roomy}
use Rattle.pool_listing.proofs.Walk.{one_more, few, reached-known, reached-less}
use Rattle.pool_listing.proofs.Writing.{writes_start, writes-on, writes_end}
use Rattle.pool_listing.proofs.write_entries.Goals.{In-loop-cur}
use Rattle.pool_listing.proofs.write_entries.Goals as goal

pub loop-cur-init : goal.loop-cur-init
loop-cur-init c =
    (refl, refl, λ l o. writes_start pool (lit≤ tt) l _ _ _ _ _ _ o)

-- in a turn, the walk has a range before it
more : (c : In-loop-cur) → let x = c.args in let w = c.loop-cur in (l : List Range) → Roomy pool l x.start.now x.end.now x.next.now x.first.0 x.starts.now x.lasts.now → w.count < length l
more c l o = one_more l _ _ (c.loop-cur.invariant.2 l o).reached c.loop-cur-test.true

known : (c : In-loop-cur) → c.loop-cur.cur.0 < pool
known c =
    let u = c.requires in
    reached-known pool (lit≤ tt) u.0 _ _ _ u.1.ordered.runs _ _ (c.loop-cur.invariant.2 u.0 u.1).reached (more c u.0 u.1)

counted : (c : In-loop-cur) → c.loop-cur.count < pool
counted c =
    let u = c.requires in
    omega (arith, more c u.0 u.1, few pool u.0 u.1.ordered.runs.listed)

pub offset_bounds-start-n : goal.offset_bounds-start-n
offset_bounds-start-n c =
    omega (arith, known (goal.at.offset_bounds-start-n c).In-loop-cur)

pub bounds-start-n : goal.bounds-start-n
bounds-start-n c =
    known (goal.at.bounds-start-n c).In-loop-cur

pub offset_bounds-starts-count : goal.offset_bounds-starts-count
offset_bounds-starts-count c =
    omega (arith, counted (goal.at.offset_bounds-starts-count c).In-loop-cur)

pub bounds-starts-count : goal.bounds-starts-count
bounds-starts-count c =
    let u = c.requires in
    omega (arith, more (goal.at.bounds-starts-count c).In-loop-cur u.0 u.1, u.1.starts_fit, c.loop-cur.invariant.0)

pub offset_bounds-end-n : goal.offset_bounds-end-n
offset_bounds-end-n c =
    omega (arith, known (goal.at.offset_bounds-end-n c).In-loop-cur)

pub bounds-end-n : goal.bounds-end-n
bounds-end-n c =
    known (goal.at.bounds-end-n c).In-loop-cur

pub offset_bounds-lasts-count : goal.offset_bounds-lasts-count
offset_bounds-lasts-count c =
    omega (arith, counted (goal.at.offset_bounds-lasts-count c).In-loop-cur)

pub bounds-lasts-count : goal.bounds-lasts-count
bounds-lasts-count c =
    let u = c.requires in
    omega (arith, more (goal.at.bounds-lasts-count c).In-loop-cur u.0 u.1, u.1.lasts_fit, c.loop-cur.invariant.1)

pub overflow_add-count : goal.overflow_add-count
overflow_add-count c =
    omega (arith, counted (goal.at.overflow_add-count c).In-loop-cur)

pub link_of-cur-requires : goal.link_of-cur-requires
link_of-cur-requires c =
    known (goal.at.link_of-cur-requires c).In-loop-cur

pub loop-cur-smaller : goal.loop-cur-smaller
loop-cur-smaller c =
    let u = c.requires in
    rw c.link_of-cur.ensures (reached-less pool (lit≤ tt) u.0 _ _ _ u.1.ordered.runs _ _ (c.loop-cur.invariant.2 u.0 u.1).reached (more (goal.at.loop-cur-smaller c).In-loop-cur u.0 u.1))

pub loop-cur-preserved : goal.loop-cur-preserved
loop-cur-preserved c =
    let i = c.loop-cur.invariant in
    (simp length-set i.0, simp length-set i.1, λ l o. rw c.link_of-cur.ensures (writes-on pool (lit≤ tt) l _ _ _ _ _ _ o _ _ _ _ (i.2 l o) (more (goal.at.loop-cur-preserved c).In-loop-cur l o)))

pub returns : goal.returns
returns c l o =
    writes_end pool (lit≤ tt) l _ _ _ _ _ _ o _ _ _ _ (c.loop-cur.invariant.2 l o) c.loop-cur-test.false
