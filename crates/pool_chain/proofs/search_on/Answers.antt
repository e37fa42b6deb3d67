use Prim.Native.Nat.{ℕ, ◌<◌}
use mathlib.Core.List.{List}
use native.Mathlib.Omega.{arith}
use lib.Dec.{lit≤}
use Rattle.rules.specs.Rules.{Range, start_of}
use Rattle.pool_state.specs.Shown.{pool, Runs, Walked}
use Rattle.pool_state.proofs.Walks.{Stands, stands, stands_good, walk-stops, walk-on, walk-less, walk_ends}
use Rattle.pool_chain.proofs.search_on.Goals.{In-loop-cur}
use Rattle.pool_chain.proofs.search_on.Goals as goal

pub loop-cur-init : goal.loop-cur-init
loop-cur-init c l end t w =
    w

-- in a turn, the walk stands at a range of the chain
turn : (c : In-loop-cur) (l : List Range) (end : List ℕ) (t : Runs pool l c.args.start.now end c.args.next.now) → Walked start_of l c.args.address.0 c.args.low.0 c.args.high.0 → Stands pool (lit≤ tt) start_of l _ _ _ t c.args.address.0 c.loop-cur.before.0 c.loop-cur.cur.0
turn c l end t e = stands pool (lit≤ tt) start_of l _ _ _ t _ _ _ (c.loop-cur.invariant l end t e) c.loop-cur-test.true

known : (c : In-loop-cur) → c.loop-cur.cur.0 < pool
known c =
    let u = c.requires in
    (stands_good pool (lit≤ tt) start_of u.0 _ _ _ u.2 _ _ _ (turn c u.0 u.1 u.2 u.3)).known

pub bounds-start-n : goal.bounds-start-n
bounds-start-n c =
    known (goal.at.bounds-start-n c).In-loop-cur

pub returns-then-address-start : goal.returns-then-address-start
returns-then-address-start c l end t e =
    walk-stops pool (lit≤ tt) start_of l _ _ _ t _ _ _ (turn (goal.at.returns-then-address-start c).In-loop-cur l end t e) c.if-address-start.true

pub link_of-cur-requires : goal.link_of-cur-requires
link_of-cur-requires c =
    known (goal.at.link_of-cur-requires c).In-loop-cur

pub loop-cur-smaller : goal.loop-cur-smaller
loop-cur-smaller c =
    let u = c.requires in
    rw c.link_of-cur.ensures (walk-less pool (lit≤ tt) start_of u.0 _ _ _ u.2 _ _ _ (turn (goal.at.loop-cur-smaller c).In-loop-cur u.0 u.1 u.2 u.3))

pub loop-cur-preserved : goal.loop-cur-preserved
loop-cur-preserved c l end t e =
    rw c.link_of-cur.ensures (walk-on pool (lit≤ tt) start_of l _ _ _ t _ _ _ (turn (goal.at.loop-cur-preserved c).In-loop-cur l end t e) (omega (arith, c.if-address-start.false)))

pub returns : goal.returns
returns c l end t e =
    walk_ends pool (lit≤ tt) start_of l _ _ _ t _ _ _ (c.loop-cur.invariant l end t e) c.loop-cur-test.false
