-- A family of lists of numbers, by a key of each number, joined in the order of the keys.
use Prim.Native.Nat.{ℕ, zero, suc, ◌+◌, ◌<◌, ◌≤◌}
use mathlib.Core.Bool.{Bool, true, false, cond}
use mathlib.Core.Logic.{◌≢◌, ◌⊎◌, inl, inr, ⊎_elim}
use mathlib.Core.List.{List, [], ◌∷◌, ◌++◌, map, append-nil}
use mathlib.Core.Path.{◌≡◌, refl, sym, ap, ◌∙◌}
use native.Mathlib.Omega.{arith}
use borrow.Author.Tests.{eq-eqb, ne_eqb}
use lib.Dec.{eqb}
use Rattle.linked_lists.specs.Links.{has}
use Rattle.linked_lists.proofs.Laws.{same?, true≢false, has_left, has_right}
use Rattle.rules.specs.Rules.{Range, of_list}
use Rattle.pool_state.specs.Shown.{at, key_at}
use Rattle.check_meaning.specs.Paragraph.{InOrder}
use Rattle.check_meaning.proofs.Orders.{has_first, has_either, rest, order-append}

-- the m lists from j on
unfoldable pub joined : (ℕ → List ℕ) → ℕ → ℕ → List ℕ
joined ls zero j = []
joined ls (suc m) j = ls j ++ joined ls m (suc j)

module _ (key : ℕ → ℕ) (ls : ℕ → List ℕ) (keyed : (k x : ℕ) → has x (ls k) ≡ true → key x ≡ k) where
  pub joined-has : (m j x : ℕ) → has x (joined ls m j) ≡ true → (j ≤ key x) × (key x < j + m) × (has x (ls (key x)) ≡ true)
  unfolding joined
  joined-has zero j x h = true≢false (sym h)
  joined-has (suc m) j x h =
      ⊎_elim
      (λ (i : has x (ls j) ≡ true). let e = keyed j x i in (omega arith, omega arith, rw e i))
      (λ (i : has x (joined ls m (suc j)) ≡ true). let w = joined-has m (suc j) x i in (omega (arith, w.0), omega (arith, w.1), w.2))
      (has_either x (ls j) (joined ls m (suc j)) h)

  pub has-joined : (m j x : ℕ) → j ≤ key x → key x < j + m → has x (ls (key x)) ≡ true → has x (joined ls m j) ≡ true
  unfolding joined
  has-joined zero j x a b h = absurd (let z : ⊥ = omega arith in z)
  has-joined (suc m) j x a b h =
      ⊎_elim
      (λ (e : key x ≡ j). has_left x (ls j) (joined ls m (suc j)) (rw e at h))
      (λ (d : key x ≢ j). has_right x (ls j) (joined ls m (suc j)) (has-joined m (suc j) x (omega arith) (omega arith) h))
      (same? (key x) j)

  -- what holds in each list, and of numbers whose keys ascend, holds in the whole
  pub joined-order : (R : ℕ → ℕ → Type 0) → ((k : ℕ) → InOrder R (ls k)) → ((x y : ℕ) → key x < key y → R x y) → (m j : ℕ) → InOrder R (joined ls m j)
  unfolding joined
  joined-order R h f zero j = tt
  joined-order R h f (suc m) j =
      order-append R (ls j) (joined ls m (suc j)) (h j) (joined-order R h f m (suc j))
      (λ x y a b. f x y (let e = keyed j x a in let w = joined-has m (suc j) y b in omega (arith, w.0)))

-- ---- ranges

map-append : (f : ℕ → Range) (l r : List ℕ) → map f (l ++ r) ≡ map f l ++ map f r
map-append f [] r = refl
map-append f (x ∷ l) r = ap (λ (k : List Range). f x ∷ k) (map-append f l r)

of_list-append : (k : ℕ) (l r : List Range) → of_list k (l ++ r) ≡ of_list k l ++ of_list k r
unfolding of_list
of_list-append k [] r = refl
of_list-append k (q ∷ l) r = rw (of_list-append k l r) (push (eqb _ k) (of_list k l) (of_list k r) q)
  where
    push : (t : Bool) (x y : List Range) (p : Range) → cond t (p ∷ x ++ y) (x ++ y) ≡ cond t (p ∷ x) x ++ y
    push true x y p = refl
    push false x y p = refl

module _ (start end : List ℕ) where
  -- a list whose numbers have the key j
  of_list-all : (j : ℕ) (xs : List ℕ) → ((x : ℕ) → has x xs ≡ true → key_at start end x ≡ j) → of_list j (map (at start end) xs) ≡ map (at start end) xs
  unfolding of_list
  of_list-all j [] h = refl
  of_list-all j (x ∷ xs) h =
      rw (eq-eqb (key_at start end x) j (h x (has_first x xs))) (ap (λ (k : List Range). at start end x ∷ k) (of_list-all j xs (rest x xs h)))

  of_list-none : (j k : ℕ) → j ≢ k → (xs : List ℕ) → ((x : ℕ) → has x xs ≡ true → key_at start end x ≡ j) → of_list k (map (at start end) xs) ≡ []
  unfolding of_list
  of_list-none j k d [] h = refl
  of_list-none j k d (x ∷ xs) h = rw (ne_eqb (key_at start end x) k (λ e. d (sym (h x (has_first x xs)) ∙ e))) (of_list-none j k d xs (rest x xs h))

  module _ (ls : ℕ → List ℕ) (keyed : (k x : ℕ) → has x (ls k) ≡ true → key_at start end x ≡ k) where
    abbrev ranges : ℕ → ℕ → List Range
    ranges m j = map (at start end) (joined ls m j)

    first_of : (m j k : ℕ) → of_list k (ranges (suc m) j) ≡ of_list k (map (at start end) (ls j)) ++ of_list k (ranges m (suc j))
    unfolding joined
    first_of m j k = ap (of_list k) (map-append (at start end) (ls j) (joined ls m (suc j))) ∙ of_list-append k (map (at start end) (ls j)) (ranges m (suc j))

    pub joined-out : (m j k : ℕ) → (k < j) ⊎ (j + m ≤ k) → of_list k (ranges m j) ≡ []
    unfolding joined of_list
    joined-out zero j k o = refl
    joined-out (suc m) j k o =
        let d : j ≢ k = ⊎_elim (λ (b : k < j). omega arith) (λ (b : j + suc m ≤ k). omega arith) o in
        let o' : (k < suc j) ⊎ (suc j + m ≤ k) = ⊎_elim (λ (b : k < j). inl (omega arith)) (λ (b : j + suc m ≤ k). inr (omega arith)) o in
        first_of m j k ∙ rw (of_list-none j k d (ls j) (keyed j), joined-out m (suc j) k o')

    pub joined-list : (m j k : ℕ) → j ≤ k → k < j + m → of_list k (ranges m j) ≡ map (at start end) (ls k)
    joined-list zero j k a b = absurd (let z : ⊥ = omega arith in z)
    joined-list (suc m) j k a b =
        first_of m j k
        ∙ ⊎_elim
        (λ (e : j ≡ k). rw (e, of_list-all k (ls k) (keyed k), joined-out m (suc k) k (inl (omega arith))) (append-nil _))
        (λ (d : j ≢ k). rw (of_list-none j k d (ls j) (keyed j)) (joined-list m (suc j) k (omega arith) (omega arith)))
        (same? j k)
