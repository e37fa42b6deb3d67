-- More than 80 bytes of a line need not be kept. n is the number of records. Assumes nothing.
use mathlib.Core.Path.{◌≡◌, refl, ap, ◌∙◌}
use mathlib.Core.Bool.{Bool, ◌&&◌}
use mathlib.Core.List.{List, [], ◌∷◌}
use Prim.Native.Nat.{ℕ, zero, suc, ◌<◌}
use native.Mathlib.Omega.{arith}
use lib.Dec.{eqb}
use lib.ListN.{length, take}
use Rattle.script_lines.specs.Script as script
use Rattle.script_lines.specs.declared.parse.Line.TheVariants as Say
use Rattle.script_lines.proofs.Reading.{capped}
use Rattle.holder_lines.specs.Lines as holders
use Rattle.holder_lines.specs.declared.HolderLine.TheVariants as Held
use Rattle.script_forms.specs.Forms.{same, opens, Desk, says, leaves}

same-take : (m : ℕ) (p w : List ℕ) → length w < m → same (take m p) w ≡ same p w
unfolding same
same-take zero p w h = absurd (let v : ⊥ = omega arith in v)
same-take (suc m) [] w h = refl
same-take (suc m) (x ∷ p) [] h = refl
same-take (suc m) (x ∷ p) (y ∷ w) h = ap (λ (b : Bool). eqb x y && b) (same-take m p w (omega arith))

module _ (n : ℕ) (d : Desk) (m : ℕ) (p : List ℕ) (h : 80 < m) where
  opens-take : opens (take m p) ≡ opens p
  opens-take = same-take m p _ (omega arith)

  pub says-take : says n d (take m p) ≡ says n d p
  unfolding says
  says-take = rw (capped script.said Say.Bad m p h, capped holders.said Held.Bad m p h, opens-take)

  pub leaves-take : leaves n d (take m p) ≡ leaves n d p
  unfolding leaves
  leaves-take = rw (capped script.said Say.Bad m p h, capped holders.said Held.Bad m p h, opens-take)
