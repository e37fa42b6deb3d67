use mathlib.Core.Path.{refl}
use native.Mathlib.Omega.{arith}
use Rattle.std.specs.Prelude.{Err}
use Rattle.pool_state.specs.Shown.{pool}
use Rattle.calls.specs.declared.MemoryError.TheVariants.{InvalidRequest}
use Rattle.calls.proofs.Endings.{refusal, same_answer}
use Rattle.call_free.proofs.Free.{free-zero, free-past, free-passed}
use Rattle.call_free.proofs.free_in.Goals as goal

pub returns-then-size-eq0-clause-does : goal.returns-then-size-eq0-clause-does
returns-then-size-eq0-clause-does c b h =
    refusal pool 4 b _ (Err InvalidRequest) _ (free-zero pool _ _ b c.if-size-eq0.true) refl refl h

pub returns-then-address-gt-TOP-clause-does : goal.returns-then-address-gt-TOP-clause-does
returns-then-address-gt-TOP-clause-does c b h =
    refusal pool 4 b _ (Err InvalidRequest) _ (free-past pool _ _ b c.if-size-eq0.false (omega (arith, c.if-address-gt-TOP.true))) refl refl h

pub returns-then-address-size-clause-does : goal.returns-then-address-size-clause-does
returns-then-address-size-clause-does c b h =
    refusal pool 4 b _ (Err InvalidRequest) _ (free-past pool _ _ b c.if-size-eq0.false (omega (arith, c.if-address-size.true, c.if-address-gt-TOP.false))) refl refl h

pub free_piece-requires : goal.free_piece-requires
free_piece-requires c =
    record { holds_some = c.requires; address_lt_past = ((let e = c.if-size-eq0.false in omega arith), omega (arith, c.if-address-gt-TOP.false, c.if-address-size.false)) }

pub returns-clause-does : goal.returns-clause-does
returns-clause-does c b h =
    same_answer pool _ _ _ _ (free-passed pool _ _ b c.if-size-eq0.false (omega (arith, c.if-address-gt-TOP.false, c.if-address-size.false))) (c.free_piece.ensures.does b h)
