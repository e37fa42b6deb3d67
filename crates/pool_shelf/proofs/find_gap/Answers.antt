use mathlib.Core.Path.{◌≡◌}
use mathlib.Core.List.{List}
use native.Mathlib.Omega.{arith}
use lib.Dec.{lit≤}
use Rattle.linked_lists.specs.Links.{head}
use Rattle.rules.specs.Rules.{Range, size}
use Rattle.pool_state.specs.Shown.{pool, numbers, Runs}
use Rattle.pool_state.proofs.Walks.{walk-starts, Stands, stands, stands_good, walk-stops, walk-on, walk-less, walk_ends}
use Rattle.pool_shelf.proofs.find_gap.Goals.{In-loop-cur}
use Rattle.pool_shelf.proofs.find_gap.Goals as goal

pub loop-cur-init : goal.loop-cur-init
loop-cur-init c l t e =
    walk-starts pool (lit≤ tt) size l _ _ _ t _ _ e

-- in a turn, the walk stands at a range of the list
turn : (c : In-loop-cur) → let x = c.args in let w = c.loop-cur in (l : List Range) (t : Runs pool l x.start.now x.end.now x.next.now) → x.first.0 ≡ head (numbers l)
    → Stands pool (lit≤ tt) size l _ _ _ t x.s w.before.0 w.cur.0
turn c l t e = stands pool (lit≤ tt) size l _ _ _ t _ _ _ (c.loop-cur.invariant l t e) c.loop-cur-test.true

pub get_size-z-requires : goal.get_size-z-requires
get_size-z-requires c =
    let u = c.requires in
    stands_good pool (lit≤ tt) size u.0 _ _ _ u.1 _ _ _ (turn (goal.at.get_size-z-requires c).In-loop-cur u.0 u.1 u.2)

pub returns-then-s-z : goal.returns-then-s-z
returns-then-s-z c l t e =
    walk-stops pool (lit≤ tt) size l _ _ _ t _ _ _ (turn (goal.at.returns-then-s-z c).In-loop-cur l t e) (omega (arith, c.get_size-z.ensures, c.if-s-z.true))

pub link_of-cur-requires : goal.link_of-cur-requires
link_of-cur-requires c =
    let u = c.requires in
    (stands_good pool (lit≤ tt) size u.0 _ _ _ u.1 _ _ _ (turn (goal.at.link_of-cur-requires c).In-loop-cur u.0 u.1 u.2)).known

pub loop-cur-smaller : goal.loop-cur-smaller
loop-cur-smaller c =
    let u = c.requires in
    rw c.link_of-cur.ensures (walk-less pool (lit≤ tt) size u.0 _ _ _ u.1 _ _ _ (turn (goal.at.loop-cur-smaller c).In-loop-cur u.0 u.1 u.2))

pub loop-cur-preserved : goal.loop-cur-preserved
loop-cur-preserved c l t e =
    rw c.link_of-cur.ensures (walk-on pool (lit≤ tt) size l _ _ _ t _ _ _ (turn (goal.at.loop-cur-preserved c).In-loop-cur l t e) (omega (arith, c.get_size-z.ensures, c.if-s-z.false)))

pub returns : goal.returns
returns c l t e =
    walk_ends pool (lit≤ tt) size l _ _ _ t _ _ _ (c.loop-cur.invariant l t e) c.loop-cur-test.false
