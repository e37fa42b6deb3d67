use mathlib.Core.Path.{refl}
use native.Mathlib.Omega.{arith}
use Rattle.std.specs.Prelude.{Err}
use Rattle.pool_state.specs.Shown.{pool}
use Rattle.calls.specs.declared.MemoryError.TheVariants.{NoMemory, InvalidRequest}
use Rattle.calls.proofs.Endings.{refusal, same_answer}
use Rattle.call_allocate.proofs.Allocate.{zero-size, high-order, too_few, searched}
use Rattle.call_allocate.proofs.allocate_in.Goals as goal

pub returns-then-size-eq0-clause-does : goal.returns-then-size-eq0-clause-does
returns-then-size-eq0-clause-does c b h =
    refusal pool 4 b _ (Err InvalidRequest) _ (zero-size pool _ _ b c.if-size-eq0.true) refl refl h

pub returns-then-order-gt-MAX_ORDER-clause-does : goal.returns-then-order-gt-MAX_ORDER-clause-does
returns-then-order-gt-MAX_ORDER-clause-does c b h =
    refusal pool 4 b _ (Err InvalidRequest) _ (high-order pool _ _ b c.if-size-eq0.false c.if-order-gt-MAX_ORDER.true) refl refl h

pub returns-then-f-size-clause-does : goal.returns-then-f-size-clause-does
returns-then-f-size-clause-does c b h =
    refusal pool 3 b _ (Err NoMemory) _ (too_few pool _ _ b c.if-size-eq0.false c.if-order-gt-MAX_ORDER.false (omega (arith, h.counts, c.if-f-size.true))) refl refl h

pub allocate_fit-requires : goal.allocate_fit-requires
allocate_fit-requires c =
    record { holds_some = c.requires; size_nonzero = ((let e = c.if-size-eq0.false in omega arith), c.if-order-gt-MAX_ORDER.false) }

pub returns-clause-does : goal.returns-clause-does
returns-clause-does c b h =
    same_answer pool _ _ _ _ (searched pool _ _ b c.if-size-eq0.false c.if-order-gt-MAX_ORDER.false (omega (arith, h.counts, c.if-f-size.false))) (c.allocate_fit.ensures.does b h)
