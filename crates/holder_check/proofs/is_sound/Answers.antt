use mathlib.Core.Path.{refl, sym, ap, ◌∙◌}
use Prim.Native.Nat.{ℕ}
use lib.Dec.{lit≤}
use Rattle.memory_allocator.specs.Names.{pool}
use Rattle.calls.specs.Calls.{number_of}
use Rattle.calls.proofs.Numbers.{refusal-nonzero}
use Rattle.holder_check.proofs.Listed.{listed-as, refused-unsound, count_fits, judged-listed}
use Rattle.holder_check.proofs.Owned.{owned-memory}
use Rattle.holder_check.proofs.is_sound.Goals as goal

pub returns-in-Err : goal.returns-in-Err
returns-in-Err c =
    let s = c.args.s in
    refused-unsound pool s _ _ _ _ _ c.listing.ensures (lit≤ tt) (owned-memory s _ c.well_formed.0) refl refl (λ q. refusal-nonzero ℕ _ (sym (ap number_of c.in-Err.is) ∙ q))

pub is_register_sound-requires : goal.is_register_sound-requires
is_register_sound-requires c =
    let s = c.args.s in
    count_fits pool s _ _ _ _ _ (listed-as pool _ _ _ _ _ _ _ c.in-Ok.is c.listing.ensures) (lit≤ tt) (owned-memory s _ c.well_formed.0) refl refl refl

pub returns-in-Ok : goal.returns-in-Ok
returns-in-Ok c =
    let s = c.args.s in
    c.is_register_sound.ensures
    ∙ judged-listed pool s _ _ _ _ _ (listed-as pool _ _ _ _ _ _ _ c.in-Ok.is c.listing.ensures) (lit≤ tt) (owned-memory s _ c.well_formed.0) refl refl refl
