use borrow.Author.Rules.{rules}
use native.Mathlib.Omega.{arith}
use native.Mathlib.Numerals.{add-one}
use Rattle.holder_arrays.proofs.is_register_sound_in.Goals as goal

pub is_register_sound_beside-requires : goal.is_register_sound_beside-requires
is_register_sound_beside-requires c =
    λ a b o w. (λ κs p v q u. record { fits = omega arith }, λ κs p v q u m. (c.requires, omega arith))

pub returns : goal.returns
returns c =
    λ f o. c.is_register_sound_beside.ensures f (λ a b r n w e. search (rules, add-one))
