use mathlib.Core.Path.{◌≡◌, sym, ap, ◌∙◌}
use native.Mathlib.Omega.{arith}
use native.Mathlib.Numerals.{add-one}
use lib.Dec.{lit≤}
use Rattle.pool_state.specs.Shown.{pool}
use Rattle.check_records.specs.Records.{used}
use Rattle.std.specs.Prelude.{Some}
use Rattle.check_records.proofs.Records.{all_none, all_more, count_none, count-used, count-unused, count-at-most, used-tested, unused-tested, records-broken, records-counted}
use Rattle.check_records.proofs.tally_records.Goals as goal

pub loop-i-init : goal.loop-i-init
loop-i-init c =
    (lit≤ tt, all_none _, sym (count_none _))

pub overflow_add-count : goal.overflow_add-count
overflow_add-count c =
    omega (arith, c.loop-i.invariant.2, count-at-most (used c.args.enabled.now) c.loop-i.i)

pub loop-i-preserved-then-is_proper : goal.loop-i-preserved-then-is_proper
loop-i-preserved-then-is_proper c =
    let l = c.loop-i in
    let on = used c.args.enabled.now in (
      omega arith,
      rw (add-one l.i) (all_more _ l.i l.invariant.1 (used-tested _ _ _ _ _ _ _ _ _ c.if-enabled-i.true c.is_proper.ensures c.if-is_proper.true)),
      rw (add-one l.i) (omega (arith, l.invariant.2, count-used on l.i c.if-enabled-i.true)),
    )

pub returns-then-enabled-i : goal.returns-then-enabled-i
returns-then-enabled-i c =
    sym (records-broken _ _ _ _ _ _ _ _ c.loop-i.i c.loop-i-test.true (used-tested _ _ _ _ _ _ _ _ _ c.if-enabled-i.true c.is_proper.ensures c.if-is_proper.false))

pub loop-i-preserved : goal.loop-i-preserved
loop-i-preserved c =
    let l = c.loop-i in
    let on = used c.args.enabled.now in (
      omega arith,
      rw (add-one l.i) (all_more _ l.i l.invariant.1 (unused-tested _ _ _ _ _ _ _ _ _ c.if-enabled-i.false c.is_fresh.ensures c.if-is_fresh.true)),
      rw (add-one l.i) (l.invariant.2 ∙ sym (count-unused on l.i c.if-enabled-i.false)),
    )

pub returns-in-loop-i : goal.returns-in-loop-i
returns-in-loop-i c =
    sym (records-broken _ _ _ _ _ _ _ _ c.loop-i.i c.loop-i-test.true (unused-tested _ _ _ _ _ _ _ _ _ c.if-enabled-i.false c.is_fresh.ensures c.if-is_fresh.false))

pub returns : goal.returns
returns c =
    let l = c.loop-i in
    let e : l.i ≡ pool = omega arith in
    ap Some l.invariant.2 ∙ sym (records-counted _ _ _ _ _ _ _ _ l.i e l.invariant.1)
