use mathlib.Core.Bool.{not}
use mathlib.Core.Path.{ap}
use Prim.Native.Nat.{◌<◌, ◌≤◌}
use mathlib.Core.Bool.{true}
use mathlib.Core.Path.{◌≡◌, sym, ◌∙◌}
use native.Mathlib.Omega.{arith}
use borrow.Author.Tests.{eq-eqb, ne_eqb, not-true, not-false}
use lib.ListN.{get_or}
use Rattle.rules.specs.Rules.{top}
use Rattle.pool_state.specs.Shown.{pool}
use Rattle.check_links.specs.Walks.{chain_step_lem}
use Rattle.check_records.proofs.Tests.{false-and, and-of}
use Rattle.check_links.proofs.Chain.{chain-starts, passes, chain-goes, chain-stuck, chain-breaks, chain-ends}
use Rattle.check_links.proofs.chain_ok.Goals.{Else-not-chain_step}
use Rattle.check_links.proofs.chain_ok.Goals as goal

pub loop-cur-init : goal.loop-cur-init
loop-cur-init c =
    chain-starts _ _ _ _ _ _ _ _

pub returns-then-left-eq0 : goal.returns-then-left-eq0
returns-then-left-eq0 c =
    sym (chain-stuck _ _ _ _ _ _ _ _ _ _ _ _ _ c.loop-cur.invariant _ c.if-left-eq0.true c.loop-cur-test.true)

pub returns-then-not-chain_step : goal.returns-then-not-chain_step
returns-then-not-chain_step c =
    sym (chain-breaks _ _ _ _ _ _ _ _ _ _ _ _ _ c.loop-cur.invariant _ c.loop-cur-test.true (sym c.chain_step.ensures ∙ not-true c.chain_step.result (ap not c.if-not-chain_step.true)))

-- in a turn that goes on, the record passes the test of the step
stepped : (c : Else-not-chain_step) → let x = c.args in let l = c.loop-cur in chain_step_lem pool x.start.now x.enabled.now x.previous.now l.before.0 l.low l.cur.0 ≡ true
stepped c = sym c.chain_step.ensures ∙ not-false c.chain_step.result (ap not c.if-not-chain_step.false)

here : (c : Else-not-chain_step) → let x = c.args in let l = c.loop-cur in (l.cur.0 < pool) × (l.low ≤ get_or x.start.now l.cur.0 0)
    × (get_or x.start.now l.cur.0 0 ≤ get_or x.end.now l.cur.0 0) × (get_or x.end.now l.cur.0 0 < top)
here c =
    passes pool c.args.first.0 c.args.start.now c.args.end.now c.args.enabled.now c.args.previous.now c.args.next.now
    c.args.count c.requires _ _ _ (stepped c)

pub size_at-sum-requires : goal.size_at-sum-requires
size_at-sum-requires c =
    let g = here (goal.at.size_at-sum-requires c).Else-not-chain_step in (g.0, g.2, g.3)

pub overflow_add-sum : goal.overflow_add-sum
overflow_add-sum c =
    let g = here (goal.at.overflow_add-sum c).Else-not-chain_step in let a = c.loop-cur.invariant in omega (arith, g.1, g.2, g.3, a.low_sum, c.size_at-sum.ensures)

pub bounds-end-n : goal.bounds-end-n
bounds-end-n c =
    (here (goal.at.bounds-end-n c).Else-not-chain_step).0

pub overflow_add-low : goal.overflow_add-low
overflow_add-low c =
    let g = here (goal.at.overflow_add-low c).Else-not-chain_step in omega (arith, g.3)

pub bounds-next-n : goal.bounds-next-n
bounds-next-n c =
    (here (goal.at.bounds-next-n c).Else-not-chain_step).0

pub overflow_sub-left : goal.overflow_sub-left
overflow_sub-left c =
    let d = c.if-left-eq0.false in omega arith

pub loop-cur-smaller : goal.loop-cur-smaller
loop-cur-smaller c =
    let d = c.if-left-eq0.false in omega arith

pub loop-cur-preserved : goal.loop-cur-preserved
loop-cur-preserved c =
    chain-goes _ _ _ _ _ _ _ _ _ _ _ _ _ c.loop-cur.invariant c.requires c.if-left-eq0.false c.loop-cur-test.true (stepped (goal.at.loop-cur-preserved c).Else-not-chain_step) _ c.size_at-sum.ensures

pub returns-then-left-ne0 : goal.returns-then-left-ne0
returns-then-left-ne0 c =
    sym (chain-ends _ _ _ _ _ _ _ _ _ _ _ _ _ c.loop-cur.invariant _ c.loop-cur-test.false ∙ false-and _ _ (ne_eqb _ _ c.if-left-ne0.true))

pub returns : goal.returns
returns c =
    sym (chain-ends _ _ _ _ _ _ _ _ _ _ _ _ _ c.loop-cur.invariant _ c.loop-cur-test.false ∙ and-of _ _ (eq-eqb _ _ c.if-left-ne0.false))
