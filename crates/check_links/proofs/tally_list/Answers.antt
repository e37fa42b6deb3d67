use mathlib.Core.Bool.{not}
use mathlib.Core.Path.{ap}
use Prim.Native.Nat.{◌<◌, ◌≤◌}
use mathlib.Core.Bool.{true}
use mathlib.Core.Path.{◌≡◌, sym, ◌∙◌}
use native.Mathlib.Omega.{arith}
use borrow.Author.Tests.{not-true, not-false}
use lib.ListN.{get_or}
use Rattle.rules.specs.Rules.{top}
use Rattle.pool_state.specs.Shown.{pool}
use Rattle.check_links.specs.Walks as walks
use Rattle.check_links.proofs.Steps.{follows-true}
use Rattle.check_links.proofs.Bounds.{list-starts, list-stuck, list-breaks, list-sinks, list-goes, list-ends, list-exceeds}
use Rattle.check_links.proofs.tally_list.Goals.{Else-not-follows}
use Rattle.check_links.proofs.tally_list.Goals as goal

pub loop-cur-init : goal.loop-cur-init
loop-cur-init c =
    λ k b. list-starts _ _ _ _ _ _ c.requires k _ _ b _ _

pub returns-then-left-eq0 : goal.returns-then-left-eq0
returns-then-left-eq0 c =
    λ k b.
    list-stuck _ _ _ _ _ _ c.requires k _ _ b _ _ _ _ _ _ (c.loop-cur.invariant k b) c.if-left-eq0.true c.loop-cur-test.true

pub returns-then-not-follows : goal.returns-then-not-follows
returns-then-not-follows c =
    λ k b.
    list-breaks _ _ _ _ _ _ c.requires k _ _ b _ _ _ _ _ _ (c.loop-cur.invariant k b) c.loop-cur-test.true
    (sym c.follows.ensures ∙ not-true c.follows.result (ap not c.if-not-follows.true))

-- in a turn that goes on, the record follows the one before it
stepped : (c : Else-not-follows) → let x = c.args in walks.follows pool x.enabled.now x.lprev.now c.loop-cur.before.0 c.loop-cur.cur.0 ≡ true
stepped c = sym c.follows.ensures ∙ not-false c.follows.result (ap not c.if-not-follows.false)

here : (c : Else-not-follows) → let x = c.args in (c.loop-cur.cur.0 < pool)
    × (get_or x.start.now c.loop-cur.cur.0 0 ≤ get_or x.end.now c.loop-cur.cur.0 0) × (get_or x.end.now c.loop-cur.cur.0 0 < top)
here c =
    let w = follows-true _ _ _ _ _ (stepped c) in
    let g = c.requires _ w.0 w.1 in
    (w.0, g.0, g.1)

pub size_at-size-requires : goal.size_at-size-requires
size_at-size-requires c =
    here (goal.at.size_at-size-requires c).Else-not-follows

pub returns-then-size-low : goal.returns-then-size-low
returns-then-size-low c =
    λ k b.
    list-sinks _ _ _ _ _ _ c.requires k _ _ b _ _ _ _ _ _ (c.loop-cur.invariant k b) _ c.loop-cur-test.true
    (stepped (goal.at.returns-then-size-low c).Else-not-follows) c.size_at-size.ensures c.if-size-low.true

pub bounds-lnext-n : goal.bounds-lnext-n
bounds-lnext-n c =
    (here (goal.at.bounds-lnext-n c).Else-not-follows).0

pub overflow_sub-left : goal.overflow_sub-left
overflow_sub-left c =
    let d = c.if-left-eq0.false in omega arith

pub loop-cur-smaller : goal.loop-cur-smaller
loop-cur-smaller c =
    let d = c.if-left-eq0.false in omega arith

pub loop-cur-preserved : goal.loop-cur-preserved
loop-cur-preserved c =
    λ k b.
    list-goes _ _ _ _ _ _ c.requires k _ _ b _ _ _ _ _ _ (c.loop-cur.invariant k b) _ c.if-left-eq0.false c.loop-cur-test.true
    (stepped (goal.at.loop-cur-preserved c).Else-not-follows) c.size_at-size.ensures c.if-size-low.false

pub returns-then-most-low : goal.returns-then-most-low
returns-then-most-low c =
    λ k b.
    list-exceeds _ _ _ _ _ _ c.requires k _ _ b _ _ _ _ _ _ (c.loop-cur.invariant k b) c.if-most-low.true

pub returns : goal.returns
returns c =
    λ k b.
    list-ends _ _ _ _ _ _ c.requires k _ _ b _ _ _ _ _ _ (c.loop-cur.invariant k b) c.loop-cur-test.false c.if-most-low.false
