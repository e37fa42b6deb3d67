-- Pages that lie inside, and how many there are if none comes twice. Assumes nothing.
use mathlib.Core.Path.{◌≡◌, refl, sym, ap, subst}
use mathlib.Core.Logic.{inl, inr}
use mathlib.Core.List.{List, [], ◌∷◌}
use Prim.Native.Nat.{ℕ, suc, ◌-◌, ◌≤◌, ◌<◌}
use native.Mathlib.Omega.{arith}
use lib.Dec.{T, leb, ltb, leb→le, ltb→lt}
use lib.ListN.{length}
use Rattle.rules_laws.proofs.Lists.{if, and_l, and_r, T-no, T_true}
use Rattle.linked_lists.specs.Links.{Fresh, Listed}
use Rattle.linked_lists.proofs.Laws.{length-listed}
use Rattle.mapper_laws.specs.Tree.{In, Once}
use Rattle.mapper_laws.specs.Marks.{in_window, part}
use Rattle.mapper_tables.specs.Apart.{inside, inside_all}

pub inside-in : (low high : ℕ) (l : List ℕ) → T (inside_all low high l) → (p : ℕ) → In p l → T (inside low high p)
unfolding inside_all
inside-in low high [] t p i = elim i [ ]
inside-in low high (x ∷ l) t p (inl e) = subst (λ (y : ℕ). T (inside low high y)) (sym e) (and_l (inside low high x) (inside_all low high l) t)
inside-in low high (x ∷ l) t p (inr i) = inside-in low high l (and_r (inside low high x) (inside_all low high l) t) p i

-- ---- counted from the first page on

unfoldable shifted : ℕ → List ℕ → List ℕ
shifted low [] = []
shifted low (p ∷ l) = (p - low) ∷ shifted low l

same-many : (low : ℕ) (l : List ℕ) → length (shifted low l) ≡ length l
unfolding shifted
same-many low [] = refl
same-many low (p ∷ l) = ap suc (same-many low l)

module _ (low high : ℕ) where
  from_low : (p : ℕ) → T (inside low high p) → low ≤ p
  from_low p t = leb→le low p (and_l (leb low p) (ltb p high) t)

  new : (x : ℕ) (l : List ℕ) → low ≤ x → (In x l → ⊥) → T (inside_all low high l) → Fresh (x - low) (shifted low l)
  unfolding shifted inside_all
  new x [] h n t = tt
  new x (y ∷ l) h n t =
      let k = from_low y (and_l (inside low high y) (inside_all low high l) t) in
      ((λ e. n (inl (let z : x ≡ y = omega arith in z))), new x l h (λ i. n (inr i)) (and_r (inside low high y) (inside_all low high l) t))

  listed : (l : List ℕ) → Once l → T (inside_all low high l) → Listed (high - low) (shifted low l)
  unfolding shifted inside_all Once
  listed [] o t = tt
  listed (x ∷ l) o t =
      let here = and_l (inside low high x) (inside_all low high l) t in
      let rest = and_r (inside low high x) (inside_all low high l) t in
      let a = from_low x here in
      let b = ltb→lt x high (and_r (leb low x) (ltb x high) here) in
      ((let z : x - low < high - low = omega arith in z), new x l a o.0 rest, listed l o.1 rest)

  pub few-pages : (l : List ℕ) → Once l → T (inside_all low high l) → length l ≤ high - low
  few-pages l o t = let e = same-many low l in let n = length-listed (high - low) (shifted low l) (listed l o t) in omega arith

-- ---- the part of a list that lies in a window

pub in-part→ : (lo w p : ℕ) (l : List ℕ) → In p (part lo w l) → In p l
unfolding part
in-part→ lo w p [] i = i
in-part→ lo w p (x ∷ l) i = if (in_window lo w x) (λ (k : List ℕ). In p k → In p (x ∷ l)) (λ _ j. elim j [ inl e ↦ inl e | inr r ↦ inr (in-part→ lo w p l r) ]) (λ _ j. inr (in-part→ lo w p l j)) i

pub in-part← : (lo w p : ℕ) (l : List ℕ) → T (in_window lo w p) → In p l → In p (part lo w l)
unfolding part
in-part← lo w p [] t i = elim i [ ]
in-part← lo w p (x ∷ l) t (inl e) = if (in_window lo w x) (λ (k : List ℕ). T (in_window lo w x) → In p k) (λ _ _. inl e) (λ n y. absurd (T-no (in_window lo w x) n y)) (subst (λ (y : ℕ). T (in_window lo w y)) e t)
in-part← lo w p (x ∷ l) t (inr i) = if (in_window lo w x) (λ (k : List ℕ). In p k) (λ _. inr (in-part← lo w p l t i)) (λ _. in-part← lo w p l t i)

pub once-part : (lo w : ℕ) (l : List ℕ) → Once l → Once (part lo w l)
unfolding part Once
once-part lo w [] o = tt
once-part lo w (x ∷ l) o = if (in_window lo w x) Once (λ _. ((λ i. o.0 (in-part→ lo w x l i)), once-part lo w l o.1)) (λ _. once-part lo w l o.1)

-- a window for each of them, and none twice in it
pub once_by : (w : ℕ) (l : List ℕ) → ((p : ℕ) → In p l → (lo : ℕ) × T (in_window lo w p) × Once (part lo w l)) → Once l
unfolding Once part
once_by w [] each = tt
once_by w (x ∷ l) each = (
  (λ i. let at = each x (inl refl) in let t = at.1 in
      (rw (T_true (in_window at.0 w x) t) at at.2).0 (in-part← at.0 w x l t i)),
  once_by w l (λ p i. let at = each p (inr i) in (at.0, at.1, if (in_window at.0 w x) (λ (k : List ℕ). Once k → Once (part at.0 w l)) (λ _ o. o.1) (λ _ o. o) at.2)),
)
