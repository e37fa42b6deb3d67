-- The numbers of a sound register have room in their bytes. Assumes nothing.
use Prim.Native.Nat.{ℕ, zero, suc, ◌<◌}
use mathlib.Core.List.{List, [], ◌∷◌}
use mathlib.Core.Logic.{inl, inr}
use mathlib.Core.Path.{sym, refl, subst}
use native.Mathlib.Omega.{arith}
use lib.Dec.{leb, leb→le, lit≤}
use lib.ListN.{length, get_or}
use Rattle.rules_laws.proofs.Lists.{and_r}
use Rattle.holder_rules.specs.Register.{blank, holders}
use Rattle.holder_rules.specs.Sound.{Has, SoundEntries}
use Rattle.holder_rules.specs.declared.Entry.{Entry}
use Rattle.holder_image.proofs.Rounds.{Fits}

has : (r : List Entry) (i : ℕ) → i < length r → Has (get_or r i blank) r
has [] i h = absurd (let v : ⊥ = omega arith in v)
has (q ∷ r) zero h = inl refl
has (q ∷ r) (suc i) h = inr (has r i (omega arith))

pub sound-fits : (r : List Entry) → SoundEntries r → (i : ℕ) → i < length r → Fits (get_or r i blank)
sound-fits r s i h = elim (s.good (get_or r i blank) (has r i h)) [
  | inl d ↦ subst Fits (sym d) (record { holder = lit≤ tt; start = lit≤ tt; last = lit≤ tt })
  | inr g ↦
      let w = leb→le (get_or r i blank).holder.0 holders (and_r (leb 1 (get_or r i blank).holder.0) (leb (get_or r i blank).holder.0 holders) g.whose) in
      let p = g.proper in
      let b = g.below in
      record { holder = omega arith; start = omega arith; last = omega arith }
]
