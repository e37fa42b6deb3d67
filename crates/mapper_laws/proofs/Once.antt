-- Tables that stand in the list once lie apart. Assumes nothing.
use mathlib.Core.Path.{◌≡◌, refl, sym, ◌∙◌, ap, subst}
use mathlib.Core.Logic.{◌⊎◌, inl, inr, ◌≢◌}
use mathlib.Core.List.{List, [], ◌∷◌, ◌++◌}
use Prim.Native.Nat.{ℕ, zero, suc, ◌+◌, ◌<◌}
use native.Mathlib.Omega.{arith}
use lib.Dec.{eqb, eqb→eq}
use Rattle.rules_laws.proofs.Lists.{T-or-not, neq}
use Rattle.mapper_laws.specs.Tree.{Entry, Ends, Leads, joined, tables, In, Once}
use Rattle.mapper_laws.proofs.Apart.{Has, Apart}

pub in-l : (p : ℕ) (a b : List ℕ) → In p a → In p (a ++ b)
in-l p [] b x' = elim x' [ ]
in-l p (x ∷ a) b (inl e) = inl e
in-l p (x ∷ a) b (inr i) = inr (in-l p a b i)

pub in-r : (p : ℕ) (a b : List ℕ) → In p b → In p (a ++ b)
in-r p [] b i = i
in-r p (x ∷ a) b i = inr (in-r p a b i)

pub in_either : (p : ℕ) (a b : List ℕ) → In p (a ++ b) → In p a ⊎ In p b
in_either p [] b i = inr i
in_either p (x ∷ a) b (inl e) = inl (inl e)
in_either p (x ∷ a) b (inr i) = elim (in_either p a b i) [ inl l ↦ inl (inr l) | inr r ↦ inr r ]

pub in-or-not : (p : ℕ) (l : List ℕ) → In p l ⊎ (In p l → ⊥)
in-or-not p [] = inr (λ i. i)
in-or-not p (x ∷ l) = elim (T-or-not (eqb p x)) [
  | inl e ↦ inl (inl (eqb→eq p x e))
  | inr e ↦ elim (in-or-not p l) [ inl i ↦ inl (inr i) | inr n ↦ inr (λ i. elim i [ inl g ↦ neq p x e g | inr j ↦ n j ]) ]
]

pub record Parts (a b : List ℕ) : Type 0 where
  pub first : Once a
  pub second : Once b
  pub none : (p : ℕ) → In p a → In p b → ⊥

pub parts : (a b : List ℕ) → Once (a ++ b) → Parts a b
unfolding Once
parts [] b o = record { first = tt; second = o; none = λ p i j. i }
parts (x ∷ a) b o = let r = parts a b o.1 in record {
  first = (λ i. o.0 (in-l x a b i), r.first);
  second = r.second;
  none = λ p i j. elim i [ inl e ↦ o.0 (in-r x a b (subst (λ (y : ℕ). In y b) e j)) | inr k ↦ r.none p k j ];
}

pub in-joined : (n : ℕ) (f : ℕ → List ℕ) (j p : ℕ) → j < n → In p (f j) → In p (joined n f)
unfolding joined
in-joined zero f j p h i = absurd (let z : ⊥ = omega arith in z)
in-joined (suc n) f j p h i = elim (T-or-not (eqb j n)) [
  | inl e ↦ in-r p (joined n f) (f n) (subst (λ (k : ℕ). In p (f k)) (eqb→eq j n e) i)
  | inr e ↦ let d = neq j n e in in-l p (joined n f) (f n) (in-joined n f j p (omega arith) i)
]

pub of-joined : (n : ℕ) (f : ℕ → List ℕ) (p : ℕ) → In p (joined n f) → (j : ℕ) × (j < n) × In p (f j)
unfolding joined
of-joined zero f p i = absurd i
of-joined (suc n) f p i = elim (in_either p (joined n f) (f n) i) [
  | inl l ↦ let at = of-joined n f p l in (at.0, (let h = at.1 in omega arith), at.2)
  | inr r ↦ (n, omega arith, r)
]

pub joined_same : (n : ℕ) (f g : ℕ → List ℕ) → ((j : ℕ) → j < n → f j ≡ g j) → joined n f ≡ joined n g
unfolding joined
joined_same zero f g e = refl
joined_same (suc n) f g e = ap (λ (l : List ℕ). l ++ f n) (joined_same n f g (λ j h. e j (omega arith))) ∙ ap (λ (l : List ℕ). joined n g ++ l) (e n (omega arith))

pub once-of : (n : ℕ) (f : ℕ → List ℕ) (j : ℕ) → j < n → Once (joined n f) → Once (f j)
unfolding joined
once-of zero f j h o = absurd (let z : ⊥ = omega arith in z)
once-of (suc n) f j h o = elim (T-or-not (eqb j n)) [
  | inl e ↦ subst (λ (k : ℕ). Once (f k)) (sym (eqb→eq j n e)) (parts (joined n f) (f n) o).second
  | inr e ↦ let d = neq j n e in once-of n f j (omega arith) (parts (joined n f) (f n) o).first
]

pub two-of : (n : ℕ) (f : ℕ → List ℕ) (i j p : ℕ) → i < n → j < n → i ≢ j → Once (joined n f) → In p (f i) → In p (f j) → ⊥
unfolding joined
two-of zero f i j p hi hj d o x y = let z : ⊥ = omega arith in z
two-of (suc n) f i j p hi hj d o x y = elim (T-or-not (eqb i n)) [
  | inl e ↦ let e' = eqb→eq i n e in (parts (joined n f) (f n) o).none p (in-joined n f j p (let g : j ≢ n = λ g. d (e' ∙ sym g) in omega arith) y) (subst (λ (k : ℕ). In p (f k)) e' x)
  | inr e ↦ let g = neq i n e in elim (T-or-not (eqb j n)) [
    | inl k ↦ (parts (joined n f) (f n) o).none p (in-joined n f i p (omega arith) x) (subst (λ (m : ℕ). In p (f m)) (eqb→eq j n k) y)
    | inr k ↦ let m = neq j n k in two-of n f i j p (omega arith) (omega arith) d (parts (joined n f) (f n) o).first x y
  ]
]

module _ (page_of : ℕ → ℕ) where
  pub has_in : (h : ℕ) (E : Entry) (p : ℕ) → Has page_of h E p → In p (tables page_of h E)
  unfolding Has tables
  has_in zero E p g = g
  has_in (suc h) (Ends d) p g = g
  has_in (suc h) (Leads d f) p (inl e) = inl e
  has_in (suc h) (Leads d f) p (inr (j, lt, g)) = inr (in-joined 512 (λ k. tables page_of h (f k)) j p lt (has_in h (f j) p g))

  pub in-has : (h : ℕ) (E : Entry) (p : ℕ) → In p (tables page_of h E) → Has page_of h E p
  unfolding Has tables
  in-has zero E p i = i
  in-has (suc h) (Ends d) p i = i
  in-has (suc h) (Leads d f) p (inl e) = inl e
  in-has (suc h) (Leads d f) p (inr i) = let at = of-joined 512 (λ k. tables page_of h (f k)) p i in inr (at.0, at.1, in-has h (f at.0) p at.2)

  pub once-apart : (h : ℕ) (E : Entry) → Once (tables page_of h E) → Apart page_of h E
  unfolding Apart tables Once
  once-apart zero E o = tt
  once-apart (suc h) (Ends d) o = tt
  once-apart (suc h) (Leads d f) o = (
    λ j lt. (once-apart h (f j) (once-of 512 (λ k. tables page_of h (f k)) j lt o.1), λ g. o.0 (in-joined 512 (λ k. tables page_of h (f k)) j (page_of d) lt (has_in h (f j) (page_of d) g))),
    λ i j li lj d p x y. two-of 512 (λ k. tables page_of h (f k)) i j p li lj d o.1 (has_in h (f i) p x) (has_in h (f j) p y),
  )
