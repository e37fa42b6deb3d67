-- A walk, a step at a time.
use Prim.Native.Nat.{ℕ, zero, suc, ◌+◌, ◌-◌}
use mathlib.Core.Bool.{Bool, true, false}
use mathlib.Core.Logic.{◌≢◌}
use mathlib.Core.Path.{◌≡◌, refl, ap, sym}
use native.Mathlib.Omega.{arith}
use borrow.Author.Tests.{eq-eqb, ne_eqb}
use Rattle.linked_lists.specs.Links.{none}
use Rattle.check_links.specs.Walk.{walk, sum_along}
use Rattle.std.specs.Prelude.{Some, None}

one_less : (f : ℕ) → f ≡ suc f - 1
one_less f = omega arith

module _ (next past : ℕ → ℕ) (step : ℕ → ℕ → ℕ → Bool) where
  pub walk_ends : (f q low i : ℕ) → i ≡ none → walk next past step f q low i ≡ Some f
  unfolding walk
  walk_ends zero q low i e = rw (eq-eqb i none e)
  walk_ends (suc f) q low i e = rw (eq-eqb i none e)

  pub walk-stuck : (f q low i : ℕ) → f ≡ 0 → i ≢ none → walk next past step f q low i ≡ None
  unfolding walk
  walk-stuck f q low i z d = rw (z, ne_eqb i none d)

  pub walk-breaks : (f q low i : ℕ) → i ≢ none → step q low i ≡ false → walk next past step f q low i ≡ None
  unfolding walk
  walk-breaks zero q low i d h = rw (ne_eqb i none d)
  walk-breaks (suc f) q low i d h = rw (ne_eqb i none d, h)

  pub walk-goes : (f q low i b : ℕ) → f ≢ 0 → i ≢ none → step q low i ≡ true → b ≡ past i → walk next past step f q low i ≡ walk next past step (f - 1) i b (next i)
  unfolding walk
  walk-goes zero q low i b c d h e = absurd (c refl)
  walk-goes (suc f) q low i b c d h e = let m = one_less f in rw (ne_eqb i none d, h) (λ z. walk next past step (m z) i (sym e z) (next i))

module _ (next weight : ℕ → ℕ) where
  pub sum-ends : (f i : ℕ) → i ≡ none → sum_along next weight f i ≡ 0
  unfolding sum_along
  sum-ends zero i e = refl
  sum-ends (suc f) i e = rw (eq-eqb i none e)

  pub sum_goes : (f i : ℕ) → f ≢ 0 → i ≢ none → sum_along next weight f i ≡ weight i + sum_along next weight (f - 1) (next i)
  unfolding sum_along
  sum_goes zero i c d = absurd (c refl)
  sum_goes (suc f) i c d = rw (ne_eqb i none d) (ap (λ (k : ℕ). weight i + sum_along next weight k (next i)) (one_less f))
