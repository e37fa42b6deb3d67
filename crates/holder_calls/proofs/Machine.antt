-- A signed number as the machine has it, and the tests of it. Assumes nothing.
use mathlib.Core.Bool.{Bool}
use mathlib.Core.Logic.{◌≢◌}
use mathlib.Core.Path.{◌≡◌, sym, ap, ◌∙◌, subst}
use lib.IntN.{ℤ, pos, negsuc}
use lib.Signed.{lt_z}
use mir.Syntax.{w64}
use mir.Val.{SFits, to_z, of_z}
use mir.Facts.{to_z-of_z}

module _ (i : ℤ) (fits : SFits w64 i) where
  pub as-held : to_z w64 (of_z w64 i) ≡ i
  as-held = to_z-of_z {w = w64} fits

  -- what holds of the number holds of it there
  pub held : (P : ℤ → Type 0) → P i → P (to_z w64 (of_z w64 i))
  held P p = subst P (sym as-held) p

  pub is-four : of_z w64 i ≡ of_z w64 (negsuc 3) → i ≡ negsuc 3
  is-four e = sym as-held ∙ ap (to_z w64) e

  pub tested : (b : Bool) → lt_z (to_z w64 (of_z w64 i)) (pos 0) ≡ b → lt_z i (pos 0) ≡ b
  tested b t = ap (λ (x : ℤ). lt_z x (pos 0)) (sym as-held) ∙ t

pub not-four : (i : ℤ) → (of_z w64 i ≡ of_z w64 (negsuc 3) → ⊥) → i ≢ negsuc 3
not-four i d e = d (ap (of_z w64) e)
