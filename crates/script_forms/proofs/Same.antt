-- Two texts held against each other, byte by byte, as the library does it. Assumes nothing.
use mathlib.Core.Path.{◌≡◌, refl, ap}
use mathlib.Core.Bool.{Bool, ◌&&◌}
use mathlib.Core.List.{List, [], ◌∷◌}
use Prim.Native.Nat.{ℕ}
use lib.Dec.{eqb}
use lib.Pointwise.{pointwise}
use Rattle.script_forms.specs.Forms.{same}

pub by_bytes : (a b : List ℕ) → pointwise eqb a b ≡ same a b
unfolding same
by_bytes [] [] = refl
by_bytes [] (y ∷ b) = refl
by_bytes (x ∷ a) [] = refl
by_bytes (x ∷ a) (y ∷ b) = ap (λ (t : Bool). eqb x y && t) (by_bytes a b)
