-- The least of some numbers is one of them and not above any; and what noting a figure keeps. Assumes nothing.
use mathlib.Core.Path.{◌≡◌, refl, ◌∙◌, ap}
use mathlib.Core.Logic.{◌≢◌, ◌⊎◌, inl, inr}
use mathlib.Core.Bool.{Bool, true, false, cond}
use mathlib.Core.List.{List, [], ◌∷◌}
use Prim.Native.Nat.{ℕ, ◌≤◌}
use native.Mathlib.Omega.{arith}
use lib.Dec.{ltb, eqb}
use borrow.Author.Tests.{le-leb, ltb-true, ltb-false, ne_eqb, eqb-false}
use Rattle.rules.specs.Rules.{Book, total, Call, step}
use Rattle.rules.specs.Sound.{Sound}
use Rattle.rules_lowest.specs.Lowest.{less, noted, low_sound, least}
use Rattle.rules_lowest.proofs.Totals.{refused-total}

-- ---- the least

-- x is one of the numbers
abbrev pub Among : ℕ → List ℕ → Type 0
Among x [] = ⊥
Among x (y ∷ l) = (x ≡ y) ⊎ Among x l

less-le : (x y : ℕ) → (less x y ≤ x) × (less x y ≤ y)
less-le x y = go (ltb x y) refl
  where
    go : (d : Bool) → ltb x y ≡ d → (cond d x y ≤ x) × (cond d x y ≤ y)
    go true e = let h = ltb-true x y e in (omega arith, omega arith)
    go false e = let h = ltb-false x y e in (omega arith, omega arith)

less_one : (x y : ℕ) → (less x y ≡ x) ⊎ (less x y ≡ y)
less_one x y = go (ltb x y)
  where
    go : (d : Bool) → (cond d x y ≡ x) ⊎ (cond d x y ≡ y)
    go true = inl refl
    go false = inr refl

pub least_first : (m : ℕ) (l : List ℕ) → least m l ≤ m
unfolding least
least_first m [] = omega arith
least_first m (x ∷ l) = let h = least_first (less x m) l in let g = (less-le x m).1 in omega arith

-- it is not above any of them,
pub least-below : (m : ℕ) (l : List ℕ) (x : ℕ) → Among x l → least m l ≤ x
unfolding least
least-below m [] x x3 = elim x3 [ ]
least-below m (y ∷ l) x (inl e) = let h = least_first (less y m) l in let g = (less-le y m).0 in omega arith
least-below m (y ∷ l) x (inr i) = least-below (less y m) l x i

-- and it is one of them, or m
pub least-one : (m : ℕ) (l : List ℕ) → (least m l ≡ m) ⊎ Among (least m l) l
unfolding least
least-one m [] = inl refl
least-one m (x ∷ l) = elim (least-one (less x m) l) [
  | inr i ↦ inr (inr i)
  | inl e ↦ elim (less_one x m) [ inl g ↦ inr (inl (e ∙ g)) | inr g ↦ inl (e ∙ g) ]
]

-- ---- noting

pub noted-refused : (k total low : ℕ) → k ≢ 0 → noted k total low ≡ low
noted-refused k total low d = rw (ne_eqb k 0 d)

pub noted-le : (k total low : ℕ) → noted k total low ≤ low
noted-le k total low = go (eqb k 0)
  where
    go : (d : Bool) → cond d (less total low) low ≤ low
    go true = (less-le total low).1
    go false = omega arith

-- whatever the answer, the figure fits the total that the call left
pub noted-sound : (n : ℕ) (b : Book) (c : Call) → Sound n b → (low : ℕ) → low_sound (total b) low ≡ true
    → low_sound (total (step n c b).book) (noted (step n c b).number (total (step n c b).book) low) ≡ true
noted-sound n b c s low h = go (eqb (step n c b).number 0) refl
  where
    k : ℕ
    k = (step n c b).number

    t : ℕ
    t = total (step n c b).book

    go : (d : Bool) → eqb k 0 ≡ d → low_sound t (cond d (less t low) low) ≡ true
    go true e = rw (le-leb (less t low) t (less-le t low).0)
    go false e = ap (λ (x : ℕ). low_sound x low) (refused-total n b c s (eqb-false k 0 e)) ∙ h
