-- Several tests as one: of bits that numbers have in common, and of bits that any of them has.
use Prim.Native.Nat.{ℕ, ◌≤◌}
use mathlib.Core.Bool.{Bool, true, false, ◌&&◌}
use mathlib.Core.Logic.{◌≢◌, ⊎_elim}
use mathlib.Core.Path.{◌≡◌, refl, sym, ap, ◌∙◌}
use native.Mathlib.Omega.{arith}
use borrow.Author.Tests.{eq-eqb, ne_eqb}
use lib.Bits.{bit_and, bit_or, and_le_l, and_le_r, and_self, or_zero_l, or_add_and}
use lib.Dec.{eqb}
use Rattle.linked_lists.proofs.Laws.{same?}

-- of numbers up to m, two have all of m in common exactly where each of them is m
pub and-is-most : (m a b : ℕ) → a ≤ m → b ≤ m → eqb (bit_and a b) m ≡ (eqb a m && eqb b m)
and-is-most m a b ha hb =
    ⊎_elim
    (λ (e : a ≡ m). ⊎_elim (λ (f : b ≡ m). eq-eqb (bit_and a b) m (both e f) ∙ sym (rw (eq-eqb a m e, eq-eqb b m f)))
    (λ (f : b ≢ m). ne_eqb (bit_and a b) m (λ h. f (omega (arith, and_le_r a b))) ∙ sym (rw (eq-eqb a m e, ne_eqb b m f)))
    (same? b m))
    (λ (e : a ≢ m). ne_eqb (bit_and a b) m (λ h. e (omega (arith, and_le_l a b))) ∙ sym (rw (ne_eqb a m e)))
    (same? a m)
  where
    both : a ≡ m → b ≡ m → bit_and a b ≡ m
    both e f = (λ i. bit_and (e i) (f i)) ∙ and_self m

-- four of them
pub four-are-most : (m a b c d : ℕ) → a ≤ m → b ≤ m → c ≤ m → d ≤ m
    → eqb (bit_and (bit_and (bit_and a b) c) d) m ≡ (eqb a m && (eqb b m && (eqb c m && eqb d m)))
four-are-most m a b c d ha hb hc hd =
    let hab : bit_and a b ≤ m = omega (arith, and_le_l a b) in
    let habc : bit_and (bit_and a b) c ≤ m = omega (arith, and_le_r (bit_and a b) c) in
    and-is-most m (bit_and (bit_and a b) c) d habc hd
    ∙ ap (λ (t : Bool). t && eqb d m) (and-is-most m (bit_and a b) c hab hc ∙ ap (λ (t : Bool). t && eqb c m) (and-is-most m a b ha hb))
    ∙ grouped (eqb a m) (eqb b m) (eqb c m) (eqb d m)
  where
    grouped : (p q r s : Bool) → (((p && q) && r) && s) ≡ (p && (q && (r && s)))
    grouped true true true s = refl
    grouped true true false s = refl
    grouped true false r s = refl
    grouped false q r s = refl

-- neither has a bit exactly where both are 0
pub or-is-zero : (a b : ℕ) → bit_or a b ≡ 0 → (a ≡ 0) × (b ≡ 0)
or-is-zero a b h = (omega (arith, or_add_and a b, and_le_r a b), omega (arith, or_add_and a b, and_le_l a b))

pub zero-is-or : (a b : ℕ) → a ≡ 0 → b ≡ 0 → bit_or a b ≡ 0
zero-is-or a b e f = (λ i. bit_or (e i) (f i)) ∙ or_zero_l 0
