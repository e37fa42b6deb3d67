-- What the definitions give on each way through the tests of a fresh record. Assumes nothing.
use mathlib.Core.Path.{◌≡◌}
use mathlib.Core.Bool.{Bool, false, ◌&&◌}
use mathlib.Core.List.{List}
use mathlib.Core.Logic.{⊎_elim}
use Prim.Native.Nat.{ℕ, ◌+◌, ◌*◌, ◌≤◌}
use native.Mathlib.Nat.{add-zero}
use native.Mathlib.Omega.{arith}
use lib.Dec.{eqb}
use lib.ListN.{length}
use borrow.Author.Tests.{eq-eqb, ne_eqb}
use Rattle.linked_lists.proofs.Laws.{same?}
use Rattle.image_parts.specs.Layout.{Layout, word, no_link, end_at, links_at}
use Rattle.bytes_be.specs.Numbers.{Bytes}
use Rattle.image_parts.specs.Read.{number_in}
use Rattle.image_parts.proofs.Places.{number-beside, part-below}
use Rattle.image_records.specs.Records.{link_number_in_lem, unlinked_at, fresh_at}

-- numbers up to m add up to four times m only where each is m
four-most : (a b c d m : ℕ) → a ≤ m → b ≤ m → c ≤ m → d ≤ m → eqb (a + b + c + d) (m * 4) ≡ (eqb a m && (eqb b m && (eqb c m && eqb d m)))
four-most a b c d m ha hb hc hd =
    ⊎_elim (λ (ea : a ≡ m). ⊎_elim (λ (eb : b ≡ m). ⊎_elim (λ (ec : c ≡ m). ⊎_elim
    (λ (ed : d ≡ m). rw (eq-eqb (a + b + c + d) (m * 4) (omega arith), eq-eqb a m ea, eq-eqb b m eb, eq-eqb c m ec, eq-eqb d m ed))
    (λ n. rw (ne_eqb (a + b + c + d) (m * 4) (λ e. n (omega arith)), eq-eqb a m ea, eq-eqb b m eb, eq-eqb c m ec, ne_eqb d m n)) (same? d m))
    (λ n. rw (ne_eqb (a + b + c + d) (m * 4) (λ e. n (omega arith)), eq-eqb a m ea, eq-eqb b m eb, ne_eqb c m n)) (same? c m))
    (λ n. rw (ne_eqb (a + b + c + d) (m * 4) (λ e. n (omega arith)), eq-eqb a m ea, ne_eqb b m n)) (same? b m))
    (λ n. rw (ne_eqb (a + b + c + d) (m * 4) (λ e. n (omega arith)), ne_eqb a m n)) (same? a m)

-- so do four numbers of two bytes that stand side by side in one of eight
four-pairs : (a b c d : ℕ) → a ≤ 65535 → b ≤ 65535 → c ≤ 65535 → d ≤ 65535
    → eqb (a * 281474976710656 + (b * 4294967296 + (c * 65536 + d))) 18446744073709551615 ≡ (eqb a 65535 && (eqb b 65535 && (eqb c 65535 && eqb d 65535)))
four-pairs a b c d ha hb hc hd =
    let w : ℕ = a * 281474976710656 + (b * 4294967296 + (c * 65536 + d)) in
    let all : ℕ = 18446744073709551615 in
    let m : ℕ = 65535 in
    ⊎_elim (λ (ea : a ≡ m). ⊎_elim (λ (eb : b ≡ m). ⊎_elim (λ (ec : c ≡ m). ⊎_elim
    (λ (ed : d ≡ m). rw (eq-eqb w all (omega arith), eq-eqb a m ea, eq-eqb b m eb, eq-eqb c m ec, eq-eqb d m ed))
    (λ n. rw (ne_eqb w all (λ e. n (omega arith)), eq-eqb a m ea, eq-eqb b m eb, eq-eqb c m ec, ne_eqb d m n)) (same? d m))
    (λ n. rw (ne_eqb w all (λ e. n (omega arith)), eq-eqb a m ea, eq-eqb b m eb, ne_eqb c m n)) (same? c m))
    (λ n. rw (ne_eqb w all (λ e. n (omega arith)), eq-eqb a m ea, ne_eqb b m n)) (same? b m))
    (λ n. rw (ne_eqb w all (λ e. n (omega arith)), ne_eqb a m n)) (same? a m)

-- one of the four links, as it is read
pub record LinkRead (f : Layout) (l : List ℕ) (a k x : ℕ) : Type 0 where
  pub number : x ≡ link_number_in_lem f l a k
  pub most : x ≤ no_link f

module _ (f : Layout) (l : List ℕ) (a : ℕ) where
  pub unlinked-by : (x y z w : ℕ) → LinkRead f l a 0 x → LinkRead f l a 1 y → LinkRead f l a 2 z → LinkRead f l a 3 w → eqb (x + y + z + w) (no_link f * 4) ≡ unlinked_at f l a
  unlinked-by x y z w hx hy hz hw = rw (← hx.number, ← hy.number, ← hz.number, ← hw.number) (four-most x y z w (no_link f) hx.most hy.most hz.most hw.most)

  module _ (bytes : Bytes l) (room : a + 8 ≤ length l) where
    pairs : number_in l a word ≡ number_in l a 2 * 281474976710656 + (number_in l (a + 2) 2 * 4294967296 + (number_in l (a + 4) 2 * 65536 + number_in l (a + 6) 2))
    pairs =
        let p₁ : number_in l a 8 ≡ number_in l a 2 * 281474976710656 + number_in l (a + 2) 6 = number-beside l a 2 6 (omega arith) in
        let p₂ : number_in l (a + 2) 6 ≡ number_in l (a + 2) 2 * 4294967296 + number_in l (a + 2 + 2) 4 = number-beside l (a + 2) 2 4 (omega arith) in
        let p₃ : number_in l (a + 4) 4 ≡ number_in l (a + 4) 2 * 65536 + number_in l (a + 4 + 2) 2 = number-beside l (a + 4) 2 2 (omega arith) in
        let e₂ : a + 2 + 2 ≡ a + 4 = omega arith in
        let e₃ : a + 4 + 2 ≡ a + 6 = omega arith in
        let q₂ = rw e₂ at p₂ in
        let q₃ = rw e₃ at p₃ in
        omega arith

    small : (o : ℕ) → o ≤ 6 → number_in l (a + o) 2 ≤ 65535
    small o h = let p = part-below l (a + o) 2 bytes (omega arith) in omega arith

    pub unlinked-word : (x : ℕ) → f.link ≡ 2 → x ≡ number_in l a word → eqb x 18446744073709551615 ≡ unlinked_at f l a
    unlinked-word x two ex =
        rw (ex, pairs, two, add-zero)
        (four-pairs (number_in l a 2) (number_in l (a + 2) 2) (number_in l (a + 4) 2) (number_in l (a + 6) 2)
        (rw (← add-zero a) (small 0 (omega arith))) (small 2 (omega arith)) (small 4 (omega arith)) (small 6 (omega arith)))

  module _ (x : ℕ) (ex : x ≡ number_in l a word) where
    pub fresh_start : (x ≡ 0 → ⊥) → false ≡ fresh_at f l a
    fresh_start off = rw (← ex, ne_eqb x 0 off)

    module _ (on : x ≡ 0) (y : ℕ) (ey : y ≡ number_in l (a + end_at) word) where
      pub fresh-end : (y ≡ 0 → ⊥) → false ≡ fresh_at f l a
      fresh-end off = rw (← ex, eq-eqb x 0 on, ← ey, ne_eqb y 0 off)

      pub fresh-links : y ≡ 0 → (r : Bool) → r ≡ unlinked_at f l (a + links_at) → r ≡ fresh_at f l a
      fresh-links ony r er = rw (← ex, eq-eqb x 0 on, ← ey, eq-eqb y 0 ony, ← er)
