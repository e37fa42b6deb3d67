-- Lists of numbers: members, order, links, and how many there are.
use Prim.Native.Nat.{ℕ, zero, suc, ◌<◌, ◌≤◌, zero-le}
use mathlib.Core.Bool.{Bool, true, false}
use mathlib.Core.Logic.{◌≢◌, ◌⊎◌, inl, inr, ⊎_elim}
use mathlib.Core.List.{List, [], ◌∷◌, ◌++◌}
use mathlib.Core.Path.{◌≡◌, refl, sym, ap, ◌∙◌}
use native.Mathlib.Omega.{arith}
use borrow.Author.Tests.{eq-eqb, ne_eqb}
use lib.Dec.{eqb}
use lib.ListN.{length, get_or}
use Rattle.linked_lists.specs.Links.{pick, head, after, before_from, Fresh, Listed, has, Linked, count}
use Rattle.linked_lists.proofs.Laws.{same?, true≢false, parted, has-cons, has-put, length-mid, fresh-has, fresh-unless}
use Rattle.check_meaning.specs.Paragraph.{Link, Leads, Back, InOrder}

-- ---- members

pub has_first : (x : ℕ) (xs : List ℕ) → has x (x ∷ xs) ≡ true
has_first x xs = rw (eq-eqb x x refl)

pub has_either : (y : ℕ) (l r : List ℕ) → has y (l ++ r) ≡ true → (has y l ≡ true) ⊎ (has y r ≡ true)
has_either y [] r h = inr h
has_either y (x ∷ l) r h = ⊎_elim
    (λ (e : y ≡ x). inl (rw (eq-eqb y x e)))
    (λ (e : y ≢ x). ⊎_elim (λ (m : has y l ≡ true). inl (has-cons x y l m)) inr (has_either y l r (rw (ne_eqb y x e) at h)))
    (same? y x)

-- what holds of the first and of the rest holds of each
pub each : (P : ℕ → Type 0) (x : ℕ) (xs : List ℕ) → P x → ((y : ℕ) → has y xs ≡ true → P y) → (y : ℕ) → has y (x ∷ xs) ≡ true → P y
each P x xs p f y h = ⊎_elim (λ (e : y ≡ x). rw e p) (λ (e : y ≢ x). f y (rw (ne_eqb y x e) at h)) (same? y x)

pub rest : {P : ℕ → Type 0} (x : ℕ) (xs : List ℕ) → ((y : ℕ) → has y (x ∷ xs) ≡ true → P y) → (y : ℕ) → has y xs ≡ true → P y
rest x xs f y h = f y (has-cons x y xs h)

-- ---- order

module _ (R : ℕ → ℕ → Type 0) where
  pub order-append : (l r : List ℕ) → InOrder R l → InOrder R r → ((x y : ℕ) → has x l ≡ true → has y r ≡ true → R x y) → InOrder R (l ++ r)
  order-append [] r h k f = k
  order-append (x ∷ l) r h k f = (
    λ y m. ⊎_elim (h.0 y) (f x y (has_first x l)) (has_either y l r m),
    order-append l r h.1 k (λ z y m. f z y (has-cons x z l m)),
  )

-- distinct numbers below n
pub once-listed : (n : ℕ) (xs : List ℕ) → InOrder (λ x y. x ≢ y) xs → ((x : ℕ) → has x xs ≡ true → x < n) → Listed n xs
once-listed n [] h b = tt
once-listed n (x ∷ xs) h b = (b x (has_first x xs), fresh-unless x xs (λ m. h.0 x m refl), once-listed n xs h.1 (rest x xs b))

pub fresh-other : (x : ℕ) (xs : List ℕ) → Fresh x xs → (y : ℕ) → has y xs ≡ true → x ≢ y
fresh-other x xs f y m e = true≢false (sym (rw (sym e) at m) ∙ fresh-has x xs f)

pub listed-once : (n : ℕ) (xs : List ℕ) → Listed n xs → InOrder (λ x y. x ≢ y) xs
listed-once n [] h = tt
listed-once n (x ∷ xs) h = (fresh-other x xs h.1, listed-once n xs h.2)

pub listed_below : (n : ℕ) (xs : List ℕ) → Listed n xs → (x : ℕ) → has x xs ≡ true → x < n
listed_below n [] h = λ x m. true≢false (sym m)
listed_below n (x ∷ xs) h = each (λ y. y < n) x xs h.0 (listed_below n xs h.2)

-- ---- links

module _ (n : ℕ) (next prev : List ℕ) where
  abbrev N : ℕ → ℕ
  N i = get_or next i 0

  abbrev P : ℕ → ℕ
  P i = get_or prev i 0

  pub linked-leads : (q i : ℕ) (xs : List ℕ) → Linked n N P q xs → i ≡ head xs → Leads next i xs
  linked-leads q i [] l e = e
  linked-leads q i (x ∷ xs) l e = (e, linked-leads x (N x) xs l.3 l.2)

  pub linked-back : (q : ℕ) (xs : List ℕ) → Linked n N P q xs → Back prev q xs
  linked-back q [] l = tt
  linked-back q (x ∷ xs) l = (l.1, linked-back x xs l.3)

  pub leads-head : (i : ℕ) (xs : List ℕ) → Leads next i xs → i ≡ head xs
  leads-head i [] l = l
  leads-head i (x ∷ xs) l = l.0

  pub leads-linked : (q i : ℕ) (xs : List ℕ) → Leads next i xs → Back prev q xs → ((x : ℕ) → has x xs ≡ true → x < n) → Linked n N P q xs
  leads-linked q i [] l r b = tt
  leads-linked q i (x ∷ xs) l r b = (b x (has_first x xs), r.0, leads-head (N x) xs l.1, leads-linked x (N x) xs l.1 r.1 (rest x xs b))

either : (P : ℕ → Type 0) (t : Bool) {a b : ℕ} → P a → P b → P (pick t a b)
either P true p q = p
either P false p q = q

module _ (n : ℕ) where
  pub head-link : (xs : List ℕ) → ((x : ℕ) → has x xs ≡ true → x < n) → Link n (head xs)
  head-link [] b = inl refl
  head-link (x ∷ xs) b = inr (b x (has_first x xs))

  pub after-link : (xs : List ℕ) → ((x : ℕ) → has x xs ≡ true → x < n) → (i : ℕ) → Link n (after xs i)
  after-link [] b i = inl refl
  after-link (x ∷ xs) b i = either (Link n) (eqb i x) (head-link xs (rest x xs b)) (after-link xs (rest x xs b) i)

  pub before-link : (q : ℕ) (xs : List ℕ) → Link n q → ((x : ℕ) → has x xs ≡ true → x < n) → (i : ℕ) → Link n (before_from q xs i)
  before-link q [] l b i = inl refl
  before-link q (x ∷ xs) l b i = either (Link n) (eqb i x) l (before-link x xs (inr (b x (has_first x xs))) (rest x xs b) i)

-- ---- a list that has each number that is on is as long as they are many

pub count-length : (on : ℕ → Bool) (n : ℕ) (xs : List ℕ) → ((i : ℕ) → i < n → on i ≡ true → has i xs ≡ true) → count on n ≤ length xs
unfolding count
count-length on zero xs h = zero-le
count-length on (suc n) xs h = go (count-length on n) (on n) refl
  where
    go : ((ys : List ℕ) → ((i : ℕ) → i < n → on i ≡ true → has i ys ≡ true) → count on n ≤ length ys)
        → (t : Bool) → on n ≡ t → pick t (suc (count on n)) (count on n) ≤ length xs
    go ih true e =
        let s = parted n xs (h n (omega arith) e) in
        let k = ih (s.0 ++ s.1)
        (λ i b o. ⊎_elim (λ (q : i ≡ n). absurd (let z : ⊥ = omega arith in z)) (λ m. m) (has-put n i s.0 s.1 (rw s.2 at (h i (omega arith) o)))) in
        omega (arith, ap length s.2, length-mid n s.0 s.1)
    go ih false e = ih xs (λ i b o. h i (omega arith) o)
