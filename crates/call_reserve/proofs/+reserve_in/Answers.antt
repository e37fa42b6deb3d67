use Prim.Native.Nat.{ℕ}
use mathlib.Core.Path.{refl, sym, ap, ◌∙◌}
use native.Mathlib.Omega.{arith}
use Rattle.std.specs.Prelude.{Err}
use Rattle.std.proofs.lemmas.Result.{err_from_is_err_and}
use Rattle.rules.specs.Rules.{reserve}
use Rattle.rules_laws.proofs.Facts.{widened}
use Rattle.pool_state.specs.Shown.{pool}
use Rattle.calls.specs.declared.MemoryError.TheVariants.{NoMemory, InvalidRequest}
use Rattle.calls.proofs.Endings.{refusal, same_answer}
use Rattle.call_reserve.specs.Served.{served_as}
use Rattle.call_reserve.proofs.Reserve.{reserve-zero, reserve-order, reserve-few, reserve-past, reserve-plain, Passed, served-as}
use Rattle.call_reserve.proofs.+reserve_in.Goals.{Else-address-size}
use Rattle.call_reserve.proofs.+reserve_in.Goals as goal

-- what the lines leave
passed : (t : ℕ) (c : Else-address-size t) → Passed c.args.address.0 c.args.size c.args.order c.args.f.now.free_size.now
passed t c = record {
  some = c.if-size-eq0.false;
  order = c.if-order-gt-MAX_ORDER.false;
  enough = c.if-f-size.false;
  ends = omega (arith, c.if-address-size.false, c.if-address-gt-TOP.false);
}

pub returns-then-size-eq0-clause-does : goal.returns-then-size-eq0-clause-does
returns-then-size-eq0-clause-does t c b h = refusal pool 4 b _ (Err InvalidRequest) _ (reserve-zero pool _ _ _ b c.if-size-eq0.true) refl refl h

pub returns-then-order-gt-MAX_ORDER-clause-does : goal.returns-then-order-gt-MAX_ORDER-clause-does
returns-then-order-gt-MAX_ORDER-clause-does t c b h =
    refusal pool 4 b _ (Err InvalidRequest) _ (reserve-order pool _ _ _ b c.if-size-eq0.false c.if-order-gt-MAX_ORDER.true) refl refl h

pub returns-then-f-size-clause-does : goal.returns-then-f-size-clause-does
returns-then-f-size-clause-does t c b h =
    refusal pool 3 b _ (Err NoMemory) _ (reserve-few pool _ _ _ b c.if-size-eq0.false c.if-order-gt-MAX_ORDER.false (omega (arith, h.counts, c.if-f-size.true)))
    refl refl h

pub returns-then-address-gt-TOP-clause-does : goal.returns-then-address-gt-TOP-clause-does
returns-then-address-gt-TOP-clause-does t c b h =
    refusal pool 4 b _ (Err InvalidRequest) _
    (reserve-past pool _ _ _ b c.if-size-eq0.false c.if-order-gt-MAX_ORDER.false (omega (arith, h.counts, c.if-f-size.false))
    (omega (arith, c.if-address-gt-TOP.true)))
    refl refl h

pub returns-then-address-size-clause-does : goal.returns-then-address-size-clause-does
returns-then-address-size-clause-does t c b h =
    refusal pool 4 b _ (Err InvalidRequest) _
    (reserve-past pool _ _ _ b c.if-size-eq0.false c.if-order-gt-MAX_ORDER.false (omega (arith, h.counts, c.if-f-size.false))
    (omega (arith, c.if-address-size.true, c.if-address-gt-TOP.false)))
    refl refl h

pub returns-then-order-ne0-clause-does : goal.returns-then-order-ne0-clause-does
returns-then-order-ne0-clause-does t c b h =
    let x = c.args in
    let p = passed t (goal.at.returns-then-order-ne0-clause-does t c).Else-address-size in
    let e = c.align_address_and_size-wide.ensures in
    same_answer pool _ _ _ _
    (widened pool x.address.0 x.size x.order b p.some p.order (omega (arith, h.counts, p.enough)) p.ends
    ∙ sym (λ z. reserve pool (e.0 z) (e.1 z) 0 b))
    (c.reserve_in.ensures.does b h)

pub returns-in_err-reserve_piece-clause-does : goal.returns-in_err-reserve_piece-clause-does
returns-in_err-reserve_piece-clause-does t c b h =
    let x = c.args in
    let p = passed t (goal.at.returns-in_err-reserve_piece-clause-does t c).Else-address-size in
    let e = err_from_is_err_and c.from_residual.result c.from_residual.ensures.1 in
    rw (e.1, e.2)
    (served-as pool _ _ _ c.reserve_piece.result _
    (ap (λ (o : ℕ). reserve pool x.address.0 x.size o b) c.if-order-ne0.false
    ∙ reserve-plain pool x.address.0 x.size b p.some (omega (arith, h.counts, p.enough)) p.ends)
    (sym (ap served_as c.in_err-reserve_piece.was)) (c.reserve_piece.ensures.does b h))

pub returns-clause-does : goal.returns-clause-does
returns-clause-does t c b h =
    let x = c.args in
    let p = passed t (goal.at.returns-clause-does t c).Else-address-size in
    served-as pool _ _ _ c.reserve_piece.result _
    (ap (λ (o : ℕ). reserve pool x.address.0 x.size o b) c.if-order-ne0.false
    ∙ reserve-plain pool x.address.0 x.size b p.some (omega (arith, h.counts, p.enough)) p.ends)
    (sym (ap served_as c.in_ok-reserve_piece.was)) (c.reserve_piece.ensures.does b h)
