-- What the free bytes alone settle: the total and the ranges. And handing back what was taken. Assumes nothing.
use mathlib.Core.Path.{◌≡◌, refl, sym, ap, subst}
use mathlib.Core.Logic.{◌⊎◌, inl, inr}
use mathlib.Core.Bool.{Bool, true, false, cond, ◌||◌}
use mathlib.Core.List.{List, [], ◌∷◌, map}
use Prim.Native.Nat.{ℕ, zero, suc, ◌+◌, ◌-◌, min, ◌≤◌, ◌<◌}
use native.Mathlib.Omega.{arith}
use lib.Dec.{T, leb, leb→le, nleb→lt}
use Rattle.rules.specs.Rules.{top, Range, Book, sum, total, span, listing, any, holds, free_at, count}
use Rattle.rules.specs.Sound.{In, Pairwise}
use Rattle.rules_laws.proofs.Lists.{if, and_l, and_r, and_i, T-no, T-or-not, any→}
use Rattle.rules.specs.Sound.{Ahead, Sound}
use Rattle.rules_laws.proofs.Kept.{free→, free←}

-- ---- the total

pub count_none : (m : ℕ) → count m (λ x. false) ≡ 0
unfolding count
count_none zero = refl
count_none (suc m) = omega (arith, count_none m)

either-one : (a b : Bool) → (T a → T b → ⊥) → cond (a || b) 1 0 ≡ cond a 1 0 + cond b 1 0
either-one true true f = absurd (f tt tt)
either-one true false f = refl
either-one false true f = refl
either-one false false f = refl

count-either : (m : ℕ) (p q : ℕ → Bool) → ((x : ℕ) → T (p x) → T (q x) → ⊥) → count m (λ x. p x || q x) ≡ count m p + count m q
unfolding count
count-either zero p q h = refl
count-either (suc m) p q h = let i = count-either m p q h in
    omega (arith, either-one (p m) (q m) (h m))

holds→ : (x : ℕ) (r : Range) → T (holds x r) → (r.start ≤ x) × (x ≤ r.last)
holds→ x r t = (leb→le r.start x (and_l (leb r.start x) (leb x r.last) t), leb→le x r.last (and_r (leb r.start x) (leb x r.last) t))

-- the numbers below m between s and l
count-range : (m : ℕ) (r : Range) → r.start ≤ r.last → count m (λ x. holds x r) ≡ min m (suc r.last) - r.start
unfolding count
count-range zero r h = omega arith
count-range (suc m) r h = let i = count-range m r h in
    if (holds m r) (λ k. k + count m (λ x. holds x r) ≡ min (suc m) (suc r.last) - r.start)
    (λ t. let w = holds→ m r t in omega arith)
    (λ t. elim (T-or-not (leb r.start m)) [
      | inr g ↦ let g' = nleb→lt r.start m g in omega arith
      | inl g ↦ elim (T-or-not (leb m r.last)) [ inr k ↦ let k' = nleb→lt m r.last k in omega arith | inl k ↦ absurd (T-no (holds m r) t (and_i (leb r.start m) (leb m r.last) g k)) ]
    ])

sum-counts : (m : ℕ) (l : List Range) → Pairwise Ahead l → ((r : Range) → In r l → (r.start ≤ r.last) × (r.last < m)) → sum l ≡ count m (λ x. any (holds x) l)
unfolding sum any
sum-counts m [] h g = sym (count_none m)
sum-counts m (r ∷ l) h g =
    let e = count-either m (λ x. holds x r) (λ x. any (holds x) l) (λ x t u. let v = any→ (holds x) l u in let w = holds→ x r t in let w' = holds→ x v.0 v.2 in omega (arith, h.0 v.0 v.1)) in
    omega (arith, count-range m r (g r (inl refl)).0, g r (inl refl), sum-counts m l h.1 (λ q i. g q (inr i)))

pub sound-total : (n : ℕ) (b : Book) → Sound n b → total b ≡ count top (free_at b)
unfolding free_at
sound-total n b s = sum-counts top b.chain s.apart (λ r i. ((s.good r i).proper, (s.good r i).below))

-- ---- the ranges

-- the byte x lies in a range of the list
abbrev Has : List Range → ℕ → Type 0
Has l x = (r : Range) × In r l × (r.start ≤ x) × (x ≤ r.last)

record Lawful (l : List Range) : Type 0 where
  ordered : Pairwise Ahead l
  proper : (r : Range) → In r l → r.start ≤ r.last

tail-lawful : (r : Range) (l : List Range) → Lawful (r ∷ l) → Lawful l
tail-lawful r l h = record { ordered = h.ordered.1; proper = λ q i. h.proper q (inr i) }

-- the first range starts at or before each byte; what follows is past it by more than one
from_first : (r : Range) (l : List Range) → Lawful (r ∷ l) → (x : ℕ) → Has (r ∷ l) x → ((r.start ≤ x) × (x ≤ r.last)) ⊎ (Has l x × (suc r.last < x))
from_first r l h x (q, i, a, e) = elim i [
  | inl p ↦ let p1 : q.start ≡ r.start = ap (λ (k : Range). k.start) p in let p2 : q.last ≡ r.last = ap (λ (k : Range). k.last) p in inl (omega arith, omega arith)
  | inr j ↦ inr ((q, j, a, e), omega (arith, h.ordered.0 q j))
]

-- two lawful lists, where each byte of the first is in the second
module _ (r q : Range) (l m : List Range) (h : Lawful (r ∷ l)) (k : Lawful (q ∷ m)) (f : (x : ℕ) → Has (r ∷ l) x → Has (q ∷ m) x) where
  start-le : q.start ≤ r.start
  start-le = let p = h.proper r (inl refl) in elim (from_first q m k r.start (f r.start (r, inl refl, omega arith, p))) [ inl w ↦ w.0 | inr w ↦ omega (arith, k.proper q (inl refl)) ]

  last-le : r.start ≤ q.start → r.last ≤ q.last
  last-le e = elim (T-or-not (leb r.last q.last)) [
    | inl t ↦ leb→le r.last q.last t
    | inr t ↦ let lt = nleb→lt r.last q.last t in let p = k.proper q (inl refl) in
        elim (from_first q m k (suc q.last) (f (suc q.last) (r, inl refl, omega arith, lt))) [ inl w ↦ omega arith | inr w ↦ omega arith ]
  ]

  tail-has : q.last ≤ r.last → (x : ℕ) → Has l x → Has m x
  tail-has e x (p, i, a, b) = elim (from_first q m k x (f x (p, inr i, a, b))) [ inl w ↦ absurd (omega (arith, h.ordered.0 p i)) | inr w ↦ w.0 ]

same-spans : (l m : List Range) → Lawful l → Lawful m → ((x : ℕ) → Has l x → Has m x) → ((x : ℕ) → Has m x → Has l x) → map span l ≡ map span m
same-spans [] [] h k f g = refl
same-spans [] (q ∷ m) h k f g = absurd (g q.start (q, inl refl, omega arith, k.proper q (inl refl))).1
same-spans (r ∷ l) [] h k f g = absurd (f r.start (r, inl refl, omega arith, h.proper r (inl refl))).1
same-spans (r ∷ l) (q ∷ m) h k f g =
    let s1 = start-le r q l m h k f in let s2 = start-le q r m l k h g in
    let l1 = last-le r q l m h k f s2 in let l2 = last-le q r m l k h g s1 in
    let es : r.start ≡ q.start = omega arith in let el : r.last ≡ q.last = omega arith in
    let ih = same-spans l m (tail-lawful r l h) (tail-lawful q m k) (tail-has r q l m h k f l2) (tail-has q r m l k h g l1) in
    λ i. (es i, el i) ∷ ih i

lawful : (n : ℕ) (b : Book) → Sound n b → Lawful b.chain
lawful n b s = record { ordered = s.apart; proper = λ r i. (s.good r i).proper }

pub sound-same : (n : ℕ) (b c : Book) → Sound n b → Sound n c → ((x : ℕ) → free_at b x ≡ free_at c x) → listing b ≡ listing c
sound-same n b c s t e = same-spans b.chain c.chain (lawful n b s) (lawful n c t)
    (λ x w. free→ c x (subst T (e x) (free← b x w.0 w.1 w.2 w.3)))
    (λ x w. free→ b x (subst T (sym (e x)) (free← c x w.0 w.1 w.2 w.3)))

count-le : (m : ℕ) (p : ℕ → Bool) → count m p ≤ m
unfolding count
count-le zero p = omega arith
count-le (suc m) p = if (p m) (λ k. k + count m p ≤ suc m) (λ t. omega (arith, count-le m p)) (λ t. omega (arith, count-le m p))

pub total-le : (n : ℕ) (b : Book) → Sound n b → total b ≤ top
total-le n b s = omega (arith, sound-total n b s, count-le top (free_at b))
