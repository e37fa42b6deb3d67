-- Loops that fill an array by a function, and that lay pieces of one width side by side. Each has a start, a next turn and an end. Assumes nothing.
use mathlib.Core.Path.{◌≡◌, refl, sym, ◌∙◌, ap}
use mathlib.Core.Bool.{Bool, true, false, ◌&&◌}
use mathlib.Core.Logic.{⊎_elim}
use mathlib.Core.List.{List, [], ◌∷◌, ◌++◌, append_assoc, append-nil}
use Prim.Native.Nat.{ℕ, zero, suc, ◌+◌, ◌-◌, ◌*◌, ◌≤◌, ◌<◌}
use native.Mathlib.Nat.{mul-add, mul-one, mul-zero, add-zero, sub-zero, mul-le-mul_left}
use native.Mathlib.Numerals.{add-one}
use native.Mathlib.Omega.{arith}
use lib.Dec.{leb}
use lib.ListN.{length, take, drop, set, get_or, length-append, length-set, length-take, length-drop}
use lib.Seq.{take-suc-set, take_all, take_at}
use borrow.Author.Tests.{le-leb, lt-leb, leb-true}
use borrow.Rule.Slice.PartMut.{put_mid}
use Rattle.bytes_be.specs.Numbers.{number}
use Rattle.linked_lists.specs.Links.{tab}
use Rattle.linked_lists.proofs.Laws.{same?, true≢false}
use Rattle.image_parts.specs.Written.{joined}
use Rattle.image_parts.specs.Read.{bits}

-- ---- an array is filled: its first i values stand, and with those to come they are all

pub record Filling {A : Type 0} (f : ℕ → A) (n i : ℕ) (xs : List A) : Type 0 where
  pub within : i ≤ n
  pub sized : length xs ≡ n
  pub whole : take i xs ++ tab (n - i) i f ≡ tab n 0 f

module _ {A : Type 0} (f : ℕ → A) (n : ℕ) where
  pub fill_start : (xs : List A) → length xs ≡ n → Filling f n 0 xs
  fill_start xs h = record { within = omega arith; sized = h; whole = rw sub-zero }

  pub fill-next : (i : ℕ) (xs : List A) (v : A) → i < n → v ≡ f i → Filling f n i xs → Filling f n (i + 1) (set xs i v)
  unfolding tab
  fill-next i xs v b e g =
      let len : length xs ≡ n = g.sized in
      let m : n - i ≡ suc (n - (i + 1)) = omega arith in
      let front : take (i + 1) (set xs i v) ≡ take i xs ++ (v ∷ []) = rw add-one (take-suc-set xs i v (omega arith)) in
      let past : take i xs ++ tab (n - i) i f ≡ take i xs ++ (f i ∷ tab (n - (i + 1)) (i + 1) f) = rw (m, add-one) in
      record { within = omega arith; sized = length-set xs i v ∙ len; whole = rw (front, e, append_assoc) (sym past ∙ g.whole) }

  pub fill_end : (i : ℕ) (xs : List A) → n ≤ i → Filling f n i xs → xs ≡ tab n 0 f
  unfolding tab
  fill_end i xs b g =
      let len : length xs ≡ n = g.sized in
      let m : n - i ≡ 0 = omega arith in
      let all : take i xs ≡ xs = take_all i xs (omega arith) in
      let last : take i xs ++ tab (n - i) i f ≡ xs = rw (m, all, append-nil) in
      sym last ∙ g.whole

-- ---- pieces of width w are laid from a on, after what stands in front

pub record Laying (piece : ℕ → List ℕ) (a w n i : ℕ) (front xs : List ℕ) : Type 0 where
  pub within : i ≤ n
  pub sized : length xs ≡ a + w * n
  pub whole : take (a + w * i) xs ++ joined (n - i) i piece ≡ front ++ joined n 0 piece

module _ (piece : ℕ → List ℕ) (a w n : ℕ) where
  pub lay-start : (xs : List ℕ) → length xs ≡ a + w * n → Laying piece a w n 0 (take a xs) xs
  lay-start xs h = record {
    within = omega arith;
    sized = h;
    whole = rw (mul-zero, add-zero, sub-zero);
  }

  module _ (i : ℕ) (front xs y : List ℕ) (at k : ℕ) (ea : at ≡ a + w * i) (ek : k ≡ w) (b : i < n) (ly : length (piece i) ≡ w) (e : y ≡ piece i) (g : Laying piece a w n i front xs) where
    next-at : a + w * (i + 1) ≡ at + k
    next-at = let p = mul-add w i 1 in let q = mul-one w in omega arith

    room : at + k ≤ length xs
    room = let p : w * (i + 1) ≤ w * n = mul-le-mul_left w (omega arith) in let q = next-at in let s = g.sized in omega arith

    pub lay-next : Laying piece a w n (i + 1) front (put_mid at k xs y)
    unfolding joined
    lay-next =
        let r = room in
        let l : length y ≡ k = ap length e ∙ ly ∙ sym ek in
        let s : length xs ≡ a + w * n = g.sized in
        let m : n - i ≡ suc (n - (i + 1)) = omega arith in
        let lf : length (take at xs ++ y) ≡ at + k = simp (length-append, length-take) (omega arith) in
        let head : take (a + w * (i + 1)) (put_mid at k xs y) ≡ take at xs ++ y = rw (next-at, ← append_assoc) (take_at (take at xs ++ y) _ _ lf) in
        let past : take (a + w * i) xs ++ joined (n - i) i piece ≡ take at xs ++ (piece i ++ joined (n - (i + 1)) (i + 1) piece) = rw (ea, m, add-one) in
        record {
          within = omega arith;
          sized = simp (length-append, length-take, length-drop) (omega arith);
          whole = rw (head, e, append_assoc) (sym past ∙ g.whole);
        }

  pub lay-end : (i : ℕ) (front xs : List ℕ) → n ≤ i → Laying piece a w n i front xs → xs ≡ front ++ joined n 0 piece
  unfolding joined
  lay-end i front xs b g =
      let s : length xs ≡ a + w * n = g.sized in
      let h : i ≡ n = let t = g.within in omega arith in
      let m : n - i ≡ 0 = omega arith in
      let all : take (a + w * i) xs ≡ xs = rw h (take_all (a + w * n) xs (omega arith)) in
      let last : take (a + w * i) xs ++ joined (n - i) i piece ≡ xs = rw (m, all, append-nil) in
      sym last ∙ g.whole

-- ---- bytes are tested

module _ (l : List ℕ) (a d n i : ℕ) (b : i < n) where
  pub bit-next : get_or l (a + d * i) 0 ≤ 1 → bits l a d (n - (i + 1)) (i + 1) ≡ bits l a d (n - i) i
  unfolding bits
  bit-next h =
      let m : n - i ≡ suc (n - (i + 1)) = omega arith in
      rw (m, add-one, le-leb (get_or l (a + d * i) 0) 1 h)

  pub bit-stop : 1 < get_or l (a + d * i) 0 → bits l a d (n - i) i ≡ false
  unfolding bits
  bit-stop h =
      let m : n - i ≡ suc (n - (i + 1)) = omega arith in
      rw (m, lt-leb (get_or l (a + d * i) 0) 1 h)

pub bit-end : (l : List ℕ) (a d n i : ℕ) → n ≤ i → bits l a d (n - i) i ≡ true
unfolding bits
bit-end l a d n i h = let m : n - i ≡ 0 = omega arith in rw m

pub both : (a b : Bool) → (a && b) ≡ true → (a ≡ true) × (b ≡ true)
both true b h = (refl, h)
both false b h = true≢false (sym h)

-- the i-th of the bytes that are 0 or 1
pub bit_at : (l : List ℕ) (a d n j i : ℕ) → bits l a d n j ≡ true → j ≤ i → i < j + n → get_or l (a + d * i) 0 ≤ 1
unfolding bits
bit_at l a d zero j i e h b = absurd (omega arith)
bit_at l a d (suc n) j i e h b =
    let p = both (leb (get_or l (a + d * j) 0) 1) _ e in
    ⊎_elim (λ (q : i ≡ j). rw q (leb-true _ 1 p.0)) (λ q. bit_at l a d n (suc j) i p.1 (omega arith) (omega arith)) (same? i j)

-- ---- a part of k bytes is read

module _ (l : List ℕ) (a k : ℕ) (room : a + k ≤ length l) where
  pub part_length : length (take (a + k - a) (drop a l)) ≡ k
  part_length = simp (length-take, length-drop) (omega arith)

  pub part-read : (x : ℕ) → x ≡ number (take (a + k - a) (drop a l)) → x ≡ number (take k (drop a l))
  part-read x is = let w : a + k - a ≡ k = omega arith in rw w at is
