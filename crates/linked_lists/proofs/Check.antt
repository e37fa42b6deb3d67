-- Links that lead along a list and back: that its numbers are distinct needs no marks:
-- a number that is met twice names one number before it, so that number is met twice, and so on to the first, before which there is none.
use Prim.Native.Nat.{ℕ, zero, suc, ◌≤◌, ◌<◌, zero-le}
use mathlib.Core.Bool.{Bool, true, false}
use mathlib.Core.Path.{◌≡◌, refl, sym, ap, ◌∙◌}
use mathlib.Core.Logic.{◌≢◌, ⊎_elim}
use mathlib.Core.List.{List, [], ◌∷◌, ◌++◌}
use native.Mathlib.Omega.{arith}
use native.Mathlib.Nat.{not-suc-le-zero}
use borrow.Author.Tests.{eq-eqb, ne_eqb, eqb-true}
use lib.Dec.{eqb}
use lib.ListN.{length}
use Rattle.linked_lists.specs.Links.{pick, none, head, after, before_from, Fresh, Listed, has, Linked, count}
use Rattle.linked_lists.proofs.Laws.{same?, true≢false, not-has, parted, length-mid, fresh-has, pick_same, has-cons, fresh-both, fresh-of-listed, listed-right, narrow, listed-cut}

module _ (n : ℕ) (small : n ≤ none) (next prev : ℕ → ℕ) where
  -- ---- the numbers are distinct

  fresh-from : (x w z : ℕ) (ys : List ℕ) → prev x ≡ w → w ≢ z → Fresh w ys → Linked n next prev z ys → Fresh x ys
  fresh-from x w z [] e d h l = tt
  fresh-from x w z (y ∷ ys) e d h l = (λ q. d (sym e ∙ ap prev q ∙ l.1), fresh-from x w y ys e h.0 h.1 l.3)

  linked-fresh : (q : ℕ) (xs : List ℕ) → Linked n next prev q xs → Fresh none xs
  linked-fresh q [] l = tt
  linked-fresh q (x ∷ xs) l = (λ e. let b = l.0 in absurd (let k : ⊥ = omega arith in k), linked-fresh x xs l.3)

  listed-from : (w : ℕ) (xs : List ℕ) → Linked n next prev w xs → Fresh w xs → Listed n xs
  listed-from w [] l h = tt
  listed-from w (x ∷ xs) l h =
      let f = fresh-from x w x xs l.1 h.0 h.1 l.3 in
      (l.0, f, listed-from x xs l.3 f)

  pub linked-listed : (xs : List ℕ) → Linked n next prev none xs → Listed n xs
  linked-listed xs l = listed-from none xs l (linked-fresh none xs l)

  -- ---- the links are those of the list

  pub linked-after : (q : ℕ) (xs : List ℕ) → Linked n next prev q xs → (i : ℕ) → has i xs ≡ true → next i ≡ after xs i
  linked-after q [] l i h = true≢false (sym h)
  linked-after q (x ∷ xs) l i h = go (linked-after x xs l.3 i) (eqb i x) refl h
    where
      go : (has i xs ≡ true → next i ≡ after xs i) → (t : Bool) → eqb i x ≡ t → pick t true (has i xs) ≡ true → next i ≡ pick t (head xs) (after xs i)
      go ih true e h = ap next (eqb-true i x e) ∙ l.2
      go ih false e h = ih h

  pub linked-before : (q : ℕ) (xs : List ℕ) → Linked n next prev q xs → (i : ℕ) → has i xs ≡ true → prev i ≡ before_from q xs i
  linked-before q [] l i h = true≢false (sym h)
  linked-before q (x ∷ xs) l i h = go (linked-before x xs l.3 i) (eqb i x) refl h
    where
      go : (has i xs ≡ true → prev i ≡ before_from x xs i) → (t : Bool) → eqb i x ≡ t → pick t true (has i xs) ≡ true → prev i ≡ pick t q (before_from x xs i)
      go ih true e h = ap prev (eqb-true i x e) ∙ l.1
      go ih false e h = ih h

  -- a list with such links is linked
  pub list-linked : (q : ℕ) (xs : List ℕ) → Listed n xs → ((i : ℕ) → has i xs ≡ true → next i ≡ after xs i)
      → ((i : ℕ) → has i xs ≡ true → prev i ≡ before_from q xs i) → Linked n next prev q xs
  list-linked q [] h a b = tt
  list-linked q (x ∷ xs) h a b =
      let hx : has x (x ∷ xs) ≡ true = rw (eq-eqb x x refl) in (
        h.0,
        b x hx ∙ rw (eq-eqb x x refl),
        a x hx ∙ rw (eq-eqb x x refl),
        list-linked x xs h.2
            (λ i m. a i (later i m) ∙ rw (ne_eqb i x (other i m)))
            (λ i m. b i (later i m) ∙ rw (ne_eqb i x (other i m))),
      )
    where
      later : (i : ℕ) → has i xs ≡ true → has i (x ∷ xs) ≡ true
      later i m = ap (pick (eqb i x) true) m ∙ pick_same (eqb i x) true

      other : (i : ℕ) → has i xs ≡ true → i ≢ x
      other i m e = true≢false (sym (rw e at m) ∙ fresh-has x xs h.1)

-- ---- all that are on are in the list, if they are as many

has_more : (x z : ℕ) (l r : List ℕ) → has z (l ++ r) ≡ true → has z (l ++ x ∷ r) ≡ true
has_more x z [] r h = has-cons x z r h
has_more x z (y ∷ l) r h = go (has_more x z l r) (eqb z y) h
  where
    go : (has z (l ++ r) ≡ true → has z (l ++ x ∷ r) ≡ true) → (t : Bool) → pick t true (has z (l ++ r)) ≡ true → pick t true (has z (l ++ x ∷ r)) ≡ true
    go ih true h = refl
    go ih false h = ih h

pub length-count : (on : ℕ → Bool) (n : ℕ) (xs : List ℕ) → Listed n xs → ((i : ℕ) → has i xs ≡ true → on i ≡ true) → length xs ≤ count on n
unfolding count
length-count on zero [] h a = zero-le
length-count on zero (x ∷ xs) h a = absurd (not-suc-le-zero h.0)
length-count on (suc n) xs h a = go (length-count on n) (has n xs) refl
  where
    more : (t : Bool) (c k : ℕ) → k ≤ c → k ≤ pick t (suc c) c
    more true c k b = omega arith
    more false c k b = b

    go : ((ys : List ℕ) → Listed n ys → ((i : ℕ) → has i ys ≡ true → on i ≡ true) → length ys ≤ count on n)
        → (t : Bool) → has n xs ≡ t → length xs ≤ pick (on n) (suc (count on n)) (count on n)
    go ih true m =
        let s = parted n xs m in
        let h' : Listed (suc n) (s.0 ++ n ∷ s.1) = rw s.2 at h in
        let f : Fresh n (s.0 ++ s.1) = fresh-both n s.0 s.1 (fresh-of-listed (suc n) n s.0 s.1 h') (listed-right (suc n) s.0 (n ∷ s.1) h').1 in
        let k = ih (s.0 ++ s.1) (narrow n (s.0 ++ s.1) (listed-cut (suc n) n s.0 s.1 h') f)
        (λ i q. a i (rw s.2 (has_more n i s.0 s.1 q))) in
        rw (a n m) (omega (arith, ap length s.2, length-mid n s.0 s.1))
    go ih false m = more (on n) (count on n) (length xs) (ih xs (narrow n xs h (not-has n xs m)) a)

-- a list of numbers that are on, as many as there are, has each of them
pub covers : (on : ℕ → Bool) (n : ℕ) (xs : List ℕ) → Listed n xs → ((i : ℕ) → has i xs ≡ true → on i ≡ true) → count on n ≤ length xs
    → (i : ℕ) → i < n → on i ≡ true → has i xs ≡ true
covers on n xs h a c i b o = go (has i xs) refl
  where
    go : (t : Bool) → has i xs ≡ t → has i xs ≡ true
    go true m = m
    go false m =
        absurd
        (let k : length (i ∷ xs) ≤ count on n =
        length-count on n (i ∷ xs) (b, not-has i xs m, h)
        (λ j q. ⊎_elim (λ (e : j ≡ i). rw e o) (λ (e : j ≢ i). a j (rw (ne_eqb j i e) at q)) (same? j i)) in
        let z : ⊥ = omega arith in
        z)
