-- Laws of `after` and `before` where a number goes into a list of distinct numbers or out of it.
use Prim.Native.Nat.{ℕ, zero, suc, ◌+◌, ◌≤◌, ◌<◌, zero-le}
use native.Mathlib.Nat.{add-zero, add-suc, suc-add}
use mathlib.Core.Bool.{Bool, true, false}
use mathlib.Core.Path.{◌≡◌, refl, sym, ap, ◌∙◌, subst}
use mathlib.Core.Logic.{◌≢◌, ◌⊎◌, inl, inr, ⊎_elim}
use mathlib.Core.List.{List, [], ◌∷◌, ◌++◌}
use native.Mathlib.Omega.{arith}
use borrow.Author.Tests.{eq-eqb, ne_eqb, eqb-true, eqb-false, ltb-true, ltb-false}
use lib.Dec.{eqb, ltb}
use lib.ListN.{length, get_or, replicate}
use lib.Seq.{append_snoc}
use native.Mathlib.Nat.{le_of_suc-le-suc, not-suc-le-zero, lt_of_lt_of_le}
use Rattle.linked_lists.specs.Links.{pick, upd, none, head, last_from, after, before_from, before, without, Fresh, Listed, has, steps, follow, tab}

-- ---- updates of a function

-- two numbers are equal or not
pub same? : (a b : ℕ) → (a ≡ b) ⊎ (a ≢ b)
same? a b = go (eqb a b) refl
  where
    go : (t : Bool) → eqb a b ≡ t → (a ≡ b) ⊎ (a ≢ b)
    go true e = inl (eqb-true a b e)
    go false e = inr (eqb-false a b e)

-- a number is below another or not
pub below? : (a b : ℕ) → (a < b) ⊎ (b ≤ a)
below? a b = go (ltb a b) refl
  where
    go : (t : Bool) → ltb a b ≡ t → (a < b) ⊎ (b ≤ a)
    go true e = inl (ltb-true a b e)
    go false e = inr (ltb-false a b e)

pub pick_same {ℓ} : {A : Type ℓ} (t : Bool) (a : A) → pick t a a ≡ a
pick_same true a = refl
pick_same false a = refl

pub upd-at {ℓ} : {A : Type ℓ} (f : ℕ → A) (j : ℕ) (a : A) → upd f j a j ≡ a
upd-at f j a = rw (eq-eqb j j refl)

pub upd_other {ℓ} : {A : Type ℓ} (f : ℕ → A) (j : ℕ) (a : A) (i : ℕ) → i ≢ j → upd f j a i ≡ f i
upd_other f j a i h = rw (ne_eqb i j h)

-- updates at two places can change places
pub swap {ℓ} : {A : Type ℓ} (i j k : ℕ) (a b c : A) → j ≢ k → pick (eqb i j) a (pick (eqb i k) b c) ≡ pick (eqb i k) b (pick (eqb i j) a c)
swap i j k a b c h = go (eqb i j) (eqb i k) refl refl
  where
    go : (s t : Bool) → eqb i j ≡ s → eqb i k ≡ t → pick s a (pick t b c) ≡ pick t b (pick s a c)
    go true true p q = absurd (h (sym (eqb-true i j p) ∙ eqb-true i k q))
    go true false p q = refl
    go false true p q = refl
    go false false p q = refl

-- of two updates at one place the outer counts
pub absorb {ℓ} : {A : Type ℓ} (t : Bool) (a b c : A) → pick t a (pick t b c) ≡ pick t a c
absorb true a b c = refl
absorb false a b c = refl

-- ---- membership and freshness

pub fresh-right : (y : ℕ) (l r : List ℕ) → Fresh y (l ++ r) → Fresh y r
fresh-right y [] r h = h
fresh-right y (x ∷ l) r h = fresh-right y l r h.1

pub fresh-left : (y : ℕ) (l r : List ℕ) → Fresh y (l ++ r) → Fresh y l
fresh-left y [] r h = tt
fresh-left y (x ∷ l) r h = (h.0, fresh-left y l r h.1)

pub fresh-both : (y : ℕ) (l r : List ℕ) → Fresh y l → Fresh y r → Fresh y (l ++ r)
fresh-both y [] r h k = k
fresh-both y (x ∷ l) r h k = (h.0, fresh-both y l r h.1 k)

-- what is not in a list, and is a number, is not its first
pub fresh-head : (y : ℕ) (r : List ℕ) → y < none → Fresh y r → y ≢ head r
fresh-head y [] b h = omega arith
fresh-head y (x ∷ r) b h = h.0

-- nor its last
pub fresh-last : (y p : ℕ) (l : List ℕ) → y ≢ p → Fresh y l → y ≢ last_from p l
fresh-last y p [] b h = b
fresh-last y p (x ∷ l) b h = fresh-last y x l h.0 h.1

pub listed-right : (n : ℕ) (l r : List ℕ) → Listed n (l ++ r) → Listed n r
listed-right n [] r h = h
listed-right n (x ∷ l) r h = listed-right n l r h.2

pub listed-left : (n : ℕ) (l r : List ℕ) → Listed n (l ++ r) → Listed n l
listed-left n [] r h = tt
listed-left n (x ∷ l) r h = (h.0, fresh-left x l r h.1, listed-left n l r h.2)

pub listed-widen : (n m : ℕ) → n ≤ m → (l : List ℕ) → Listed n l → Listed m l
listed-widen n m b [] h = tt
listed-widen n m b (x ∷ l) h = (lt_of_lt_of_le h.0 b, h.1, listed-widen n m b l h.2)

-- ---- the links where x stands between l and r, and where it does not

module _ (n : ℕ) (small : n ≤ none) where
  -- with x between l and r, x is followed by r's first, l's last by x, and all else as before
  pub after-put : (x : ℕ) (l r : List ℕ) → Listed n (l ++ x ∷ r) → (i : ℕ) → i < n
      → after (l ++ x ∷ r) i ≡ upd (upd (after (l ++ r)) (last_from none l) x) x (head r) i
  after-put x [] r h i b = rw (ne_eqb i none (omega arith))
  after-put x (y ∷ []) r h i b = rw (absorb (eqb i y) x (head r) (after r i)) (swap i y x x (head r) (after r i) h.1.0)
  after-put x (y ∷ z ∷ l) r h i b =
      ap (pick (eqb i y) z) (after-put x (z ∷ l) r h.2 i b)
      ∙ swap i y x z (head r) _ (fresh-right y (z ∷ l) (x ∷ r) h.1).0
      ∙ ap (pick (eqb i x) (head r))
      (swap i y (last_from z l) z x _ (fresh-last y z l h.1.0 (fresh-left y l (x ∷ r) h.1.1)))

  -- where the walk starts matters only for the first
  pub before-start : (p q : ℕ) (r : List ℕ) (i : ℕ) → i < n → before_from p r i ≡ pick (eqb i (head r)) p (before_from q r i)
  before-start p q [] i b = rw (ne_eqb i none (omega arith))
  before-start p q (y ∷ r) i b = sym (absorb (eqb i y) p q (before_from y r i))

  pub before-put : (p x : ℕ) (l r : List ℕ) → Listed n (l ++ x ∷ r) → (i : ℕ) → i < n
      → before_from p (l ++ x ∷ r) i ≡ upd (upd (before_from p (l ++ r)) (head r) x) x (last_from p l) i
  before-put p x [] r h i b = ap (pick (eqb i x) p) (before-start x p r i b)
  before-put p x (y ∷ l) r h i b =
      ap (pick (eqb i y) p) (before-put y x l r h.2 i b)
      ∙ swap i y x p (last_from y l) _ (fresh-right y l (x ∷ r) h.1).0
      ∙ ap (pick (eqb i x) (last_from y l))
      (swap i y (head r) p x _
      (fresh-head y r (omega arith) (fresh-right y l (x ∷ r) h.1).1))

  -- what is not in a list has no number after it, nor before it
  pub after-fresh : (x : ℕ) (r : List ℕ) → Fresh x r → (i : ℕ) → after r i ≡ upd (after r) x none i
  after-fresh x [] h i = sym (pick_same (eqb i x) none)
  after-fresh x (y ∷ r) h i =
      ap (pick (eqb i y) (head r)) (after-fresh x r h.1 i) ∙ swap i y x (head r) none _ (λ e. h.0 (sym e))

  pub before-fresh : (p x : ℕ) (r : List ℕ) → Fresh x r → (i : ℕ) → before_from p r i ≡ upd (before_from p r) x none i
  before-fresh p x [] h i = sym (pick_same (eqb i x) none)
  before-fresh p x (y ∷ r) h i =
      ap (pick (eqb i y) p) (before-fresh y x r h.1 i) ∙ swap i y x p none _ (λ e. h.0 (sym e))

  -- without x, l's last is followed by r's first, x by none, and all else as before
  pub after-cut : (x : ℕ) (l r : List ℕ) → Listed n (l ++ x ∷ r) → (i : ℕ) → i < n
      → after (l ++ r) i ≡ upd (upd (after (l ++ x ∷ r)) (last_from none l) (head r)) x none i
  after-cut x [] r h i b =
      rw (ne_eqb i none (omega arith), absorb (eqb i x) none (head r) (after r i)) (after-fresh x r h.1 i)
  after-cut x (y ∷ []) r h i b =
      rw (absorb (eqb i y) (head r) x (pick (eqb i x) (head r) (after r i)), swap i y x (head r) (head r) (after r i) h.1.0, absorb (eqb i x) none (head r) (pick (eqb i y) (head r) (after r i)))
      (ap (pick (eqb i y) (head r)) (after-fresh x r h.2.1 i) ∙ swap i y x (head r) none _ h.1.0)
  after-cut x (y ∷ z ∷ l) r h i b =
      ap (pick (eqb i y) z) (after-cut x (z ∷ l) r h.2 i b)
      ∙ swap i y x z none _ (fresh-right y (z ∷ l) (x ∷ r) h.1).0
      ∙ ap (pick (eqb i x) none)
      (swap i y (last_from z l) z (head r) _ (fresh-last y z l h.1.0 (fresh-left y l (x ∷ r) h.1.1)))

  pub before-cut : (p x : ℕ) (l r : List ℕ) → Listed n (l ++ x ∷ r) → (i : ℕ) → i < n
      → before_from p (l ++ r) i ≡ upd (upd (before_from p (l ++ x ∷ r)) (head r) (last_from p l)) x none i
  before-cut p x [] r h i b =
      before-fresh p x r h.1 i
      ∙ ap (pick (eqb i x) none) (before-start p x r i b)
      ∙ sym (absorb (eqb i x) none p _)
      ∙ ap (pick (eqb i x) none) (swap i x (head r) p p _ (fresh-head x r (omega arith) h.1))
  before-cut p x (y ∷ l) r h i b =
      ap (pick (eqb i y) p) (before-cut y x l r h.2 i b)
      ∙ swap i y x p none _ (fresh-right y l (x ∷ r) h.1).0
      ∙ ap (pick (eqb i x) none)
      (swap i y (head r) p (last_from y l) _
      (fresh-head y r (omega arith) (fresh-right y l (x ∷ r) h.1).1))

  -- what stands beside x
  pub after-mid : (x : ℕ) (l r : List ℕ) → Listed n (l ++ x ∷ r) → after (l ++ x ∷ r) x ≡ head r
  after-mid x l r h =
      after-put x l r h x (listed-right n l (x ∷ r) h).0 ∙ upd-at (upd (after (l ++ r)) (last_from none l) x) x (head r)

  pub before-mid : (p x : ℕ) (l r : List ℕ) → Listed n (l ++ x ∷ r) → before_from p (l ++ x ∷ r) x ≡ last_from p l
  before-mid p x l r h =
      before-put p x l r h x (listed-right n l (x ∷ r) h).0 ∙ upd-at (upd (before_from p (l ++ r)) (head r) x) x (last_from p l)

-- ---- a number of a list parts it

pub true≢false : {A : Type 0} → true ≡ false → A
true≢false e = let z : ◌≡◌ {A = ℕ} 0 1 = cc in absurd (let k : ⊥ = omega arith in k)

pub parted : (x : ℕ) (xs : List ℕ) → has x xs ≡ true → (l : List ℕ) × (r : List ℕ) × (xs ≡ l ++ x ∷ r)
parted x [] h = true≢false (sym h)
parted x (y ∷ ys) h = go (parted x ys) (eqb x y) refl h
  where
    go : (has x ys ≡ true → (l : List ℕ) × (r : List ℕ) × (ys ≡ l ++ x ∷ r))
        → (t : Bool) → eqb x y ≡ t → pick t true (has x ys) ≡ true → (l : List ℕ) × (r : List ℕ) × (y ∷ ys ≡ l ++ x ∷ r)
    go ih true e q = ([], ys, ap (λ (k : ℕ). k ∷ ys) (sym (eqb-true x y e)))
    go ih false e q = let s = ih q in (y ∷ s.0, s.1, ap (λ (k : List ℕ). y ∷ k) s.2)

pub not-has : (x : ℕ) (xs : List ℕ) → has x xs ≡ false → Fresh x xs
not-has x [] h = tt
not-has x (y ∷ ys) h = go (not-has x ys) (eqb x y) refl h
  where
    go : (has x ys ≡ false → Fresh x ys) → (t : Bool) → eqb x y ≡ t → pick t true (has x ys) ≡ false → (x ≢ y) × Fresh x ys
    go ih true e q = true≢false q
    go ih false e q = (eqb-false x y e, ih q)

pub fresh-has : (x : ℕ) (xs : List ℕ) → Fresh x xs → has x xs ≡ false
fresh-has x [] h = refl
fresh-has x (y ∷ ys) h = rw (ne_eqb x y h.0) (fresh-has x ys h.1)

pub has-mid : (x : ℕ) (l r : List ℕ) → has x (l ++ x ∷ r) ≡ true
has-mid x [] r = rw (eq-eqb x x refl)
has-mid x (y ∷ l) r = ap (pick (eqb x y) true) (has-mid x l r) ∙ pick_same (eqb x y) true

pub without-mid : (x : ℕ) (l r : List ℕ) → Fresh x l → without x (l ++ x ∷ r) ≡ l ++ r
without-mid x [] r h = rw (eq-eqb x x refl)
without-mid x (y ∷ l) r h = rw (ne_eqb x y h.0) (ap (λ (k : List ℕ). y ∷ k) (without-mid x l r h.1))

-- ---- lists stay lists of distinct numbers

pub fresh-of-listed : (n x : ℕ) (l r : List ℕ) → Listed n (l ++ x ∷ r) → Fresh x l
fresh-of-listed n x [] r h = tt
fresh-of-listed n x (y ∷ l) r h = (λ e. (fresh-right y l (x ∷ r) h.1).0 (sym e), fresh-of-listed n x l r h.2)

fresh-cut : (y x : ℕ) (l r : List ℕ) → Fresh y (l ++ x ∷ r) → Fresh y (l ++ r)
fresh-cut y x l r h = fresh-both y l r (fresh-left y l (x ∷ r) h) (fresh-right y l (x ∷ r) h).1

pub listed-cut : (n x : ℕ) (l r : List ℕ) → Listed n (l ++ x ∷ r) → Listed n (l ++ r)
listed-cut n x [] r h = h.2
listed-cut n x (y ∷ l) r h = (h.0, fresh-cut y x l r h.1, listed-cut n x l r h.2)

pub listed-put : (n x : ℕ) (l r : List ℕ) → x < n → Fresh x (l ++ r) → Listed n (l ++ r) → Listed n (l ++ x ∷ r)
listed-put n x [] r b f h = (b, f, h)
listed-put n x (y ∷ l) r b f h = (
  h.0,
  fresh-both y l (x ∷ r) (fresh-left y l r h.1) ((λ e. f.0 (sym e)), fresh-right y l r h.1),
  listed-put n x l r b f.1 h.2,
)

-- ---- the laws of `without`: what a doubly linked list does where x goes out

-- to show something of a list that has x, show it of l ++ x ∷ r
pub by_parts : (x : ℕ) (P : List ℕ → Type 0) → ((l r : List ℕ) → P (l ++ x ∷ r)) → (xs : List ℕ) → has x xs ≡ true → P xs
by_parts x P f xs m = let s = parted x xs m in subst P (sym s.2) (f s.0 s.1)

module _ (n : ℕ) (small : n ≤ none) (x : ℕ) where
  pub after-without : (xs : List ℕ) → has x xs ≡ true → Listed n xs → (i : ℕ) → i < n
      → after (without x xs) i ≡ upd (upd (after xs) (before xs x) (after xs x)) x none i
  after-without =
      by_parts x (λ xs. Listed n xs → (i : ℕ) → i < n → after (without x xs) i ≡ upd (upd (after xs) (before xs x) (after xs x)) x none i)
      λ l r h i b.
      rw (without-mid x l r (fresh-of-listed n x l r h), before-mid n small none x l r h, after-mid n small x l r h)
      (after-cut n small x l r h i b)

  pub before-without : (xs : List ℕ) → has x xs ≡ true → Listed n xs → (i : ℕ) → i < n
      → before (without x xs) i ≡ upd (upd (before xs) (after xs x) (before xs x)) x none i
  before-without =
      by_parts x (λ xs. Listed n xs → (i : ℕ) → i < n → before (without x xs) i ≡ upd (upd (before xs) (after xs x) (before xs x)) x none i)
      λ l r h i b.
      rw (without-mid x l r (fresh-of-listed n x l r h), before-mid n small none x l r h, after-mid n small x l r h)
      (before-cut n small none x l r h i b)

  pub listed-without : (xs : List ℕ) → has x xs ≡ true → Listed n xs → Listed n (without x xs)
  listed-without =
      by_parts x (λ xs. Listed n xs → Listed n (without x xs))
      λ l r h. rw (without-mid x l r (fresh-of-listed n x l r h)) (listed-cut n x l r h)

-- the first is x, or stays
pub head-without : (x : ℕ) (xs : List ℕ) → head (without x xs) ≡ pick (eqb (head xs) x) (after xs x) (head xs)
head-without x [] = sym (pick_same (eqb none x) none)
head-without x (y ∷ ys) =
    ⊎_elim (λ e. rw (eq-eqb x y e, eq-eqb y x (sym e)))
    (λ e. rw (ne_eqb x y e, ne_eqb y x (λ q. e (sym q))))
    (same? x y)

-- ---- x put between two parts

pub last_snoc : (p : ℕ) (l : List ℕ) (y : ℕ) → last_from p (l ++ (y ∷ [])) ≡ y
last_snoc p [] y = refl
last_snoc p (x ∷ l) y = last_snoc x l y

pub head-put : (x : ℕ) (l r : List ℕ) → Listed none l → head (l ++ x ∷ r) ≡ pick (eqb (last_from none l) none) x (head (l ++ r))
head-put x [] r h = refl
head-put x (y ∷ l) r h = rw (ne_eqb (last_from y l) none (last_ok y l h.0 h.2))
  where
    last_ok : (y : ℕ) (l : List ℕ) → y < none → Listed none l → last_from y l ≢ none
    last_ok y [] b h = omega arith
    last_ok y (z ∷ l) b h = last_ok z l h.0 h.2

-- ---- the length of a list of distinct numbers below n

pub narrow : (n : ℕ) (xs : List ℕ) → Listed (suc n) xs → Fresh n xs → Listed n xs
narrow n [] h f = tt
narrow n (x ∷ xs) h f = (le_pred, h.1, narrow n xs h.2 f.1)
  where
    le_pred : x < n
    le_pred = let a = h.0 in let b = f.0 in omega arith

pub length-mid : (x : ℕ) (l r : List ℕ) → length (l ++ x ∷ r) ≡ suc (length (l ++ r))
length-mid x [] r = refl
length-mid x (y ∷ l) r = ap suc (length-mid x l r)

pub length-listed : (n : ℕ) (xs : List ℕ) → Listed n xs → length xs ≤ n
length-listed zero [] h = zero-le
length-listed zero (x ∷ xs) h = absurd (not-suc-le-zero h.0)
length-listed (suc n) xs h = go (length-listed n) (has n xs) refl
  where
    go : ((ys : List ℕ) → Listed n ys → length ys ≤ n) → (t : Bool) → has n xs ≡ t → length xs ≤ suc n
    go ih true m =
        let s = parted n xs m in
        let h' : Listed (suc n) (s.0 ++ n ∷ s.1) = rw s.2 at h in
        let k = ih (s.0 ++ s.1)
        (narrow n (s.0 ++ s.1) (listed-cut (suc n) n s.0 s.1 h')
        (fresh-both n s.0 s.1 (fresh-of-listed (suc n) n s.0 s.1 h') (listed-right (suc n) s.0 (n ∷ s.1) h').1)) in
        omega (arith, ap length s.2, length-mid n s.0 s.1)
    go ih false m = let k = ih xs (narrow n xs h (not-has n xs m)) in omega arith

-- ---- a walk along a list

-- from r's first, a walk by a `next` that follows the list takes as many steps as r is long
pub steps-walk : (n : ℕ) → n ≤ none → (next : ℕ → ℕ) (l r : List ℕ) → Listed n (l ++ r)
    → ((i : ℕ) → has i (l ++ r) ≡ true → next i ≡ after (l ++ r) i)
    → (f : ℕ) → length r ≤ f → steps next f (head r) ≡ length r
unfolding steps
steps-walk n small next l [] h g zero b = refl
steps-walk n small next l [] h g (suc f) b = refl
steps-walk n small next l (y ∷ r) h g zero b = absurd (not-suc-le-zero b)
steps-walk n small next l (y ∷ r) h g (suc f) b =
    let bound = (listed-right n l (y ∷ r) h).0 in
    let e = append_snoc l y r in
    rw (ne_eqb y none (omega arith), g y (has-mid y l r), after-mid n small y l r h)
    (ap suc
    (steps-walk n small next (l ++ (y ∷ [])) r (rw (← e) at h)
    (rw (← e) at g) f (le_of_suc-le-suc b)))

-- ---- the numbers beside a place are numbers of the list

pub has-cons : (y z : ℕ) (xs : List ℕ) → has z xs ≡ true → has z (y ∷ xs) ≡ true
has-cons y z xs h = ap (pick (eqb z y) true) h ∙ pick_same (eqb z y) true

pub has_right : (z : ℕ) (l r : List ℕ) → has z r ≡ true → has z (l ++ r) ≡ true
has_right z [] r h = h
has_right z (y ∷ l) r h = has-cons y z (l ++ r) (has_right z l r h)

pub has_left : (z : ℕ) (l r : List ℕ) → has z l ≡ true → has z (l ++ r) ≡ true
has_left z [] r h = true≢false (sym h)
has_left z (y ∷ l) r h = go (has_left z l r) (eqb z y) h
  where
    go : (has z l ≡ true → has z (l ++ r) ≡ true) → (t : Bool) → pick t true (has z l) ≡ true → pick t true (has z (l ++ r)) ≡ true
    go ih true q = refl
    go ih false q = ih q

last_of : (p : ℕ) (l : List ℕ) → has (last_from p l) (p ∷ l) ≡ true
last_of p [] = rw (eq-eqb p p refl)
last_of p (y ∷ l) = has-cons p (last_from y l) (y ∷ l) (last_of y l)

-- l's last and r's first are numbers of l ++ r, unless there is none
pub last-in : (i : ℕ) (l r : List ℕ) → i < none → i ≡ last_from none l → has i (l ++ r) ≡ true
last-in i l r b e =
    rw e
    (has_left (last_from none l) l r
    (rw (ne_eqb (last_from none l) none (λ q. let b' : last_from none l < none = rw e at b in omega arith)) at (last_of none l)))

pub head_in : (i : ℕ) (l r : List ℕ) → i < none → i ≡ head r → has i (l ++ r) ≡ true
head_in i l [] b e = absurd (let k : ⊥ = omega arith in k)
head_in i l (y ∷ r) b e = rw e (has-mid y l r)

pub has-without : (x z : ℕ) (xs : List ℕ) → has z (without x xs) ≡ true → has z xs ≡ true
has-without x z [] h = h
has-without x z (y ∷ ys) h = go (has-without x z ys) (eqb x y) h
  where
    step : (t : Bool) → (has z (without x ys) ≡ true → has z ys ≡ true) → pick t true (has z (without x ys)) ≡ true → pick t true (has z ys) ≡ true
    step true ih q = refl
    step false ih q = ih q

    go : (has z (without x ys) ≡ true → has z ys ≡ true) → (t : Bool) → has z (pick t ys (y ∷ without x ys)) ≡ true → has z (y ∷ ys) ≡ true
    go ih true q = has-cons y z ys q
    go ih false q = step (eqb z y) ih q

-- a number of l ++ x ∷ r is x or one of l ++ r
pub has-put : (x z : ℕ) (l r : List ℕ) → has z (l ++ x ∷ r) ≡ true → (z ≡ x) ⊎ (has z (l ++ r) ≡ true)
has-put x z [] r h = go (eqb z x) refl h
  where
    go : (t : Bool) → eqb z x ≡ t → pick t true (has z r) ≡ true → (z ≡ x) ⊎ (has z r ≡ true)
    go true e q = inl (eqb-true z x e)
    go false e q = inr q
has-put x z (y ∷ l) r h = go (has-put x z l r) (eqb z y) h
  where
    go : (has z (l ++ x ∷ r) ≡ true → (z ≡ x) ⊎ (has z (l ++ r) ≡ true)) → (t : Bool)
        → pick t true (has z (l ++ x ∷ r)) ≡ true → (z ≡ x) ⊎ (pick t true (has z (l ++ r)) ≡ true)
    go ih true q = inr refl
    go ih false q = ih q

-- ---- the place after l's last

pub last-below : (n y : ℕ) (l : List ℕ) → y < n → Listed n l → last_from y l < n
last-below n y [] b h = b
last-below n y (z ∷ l) b h = last-below n z l h.0 h.2

-- ---- what is not in a list

pub after_none : (x : ℕ) (r : List ℕ) → Fresh x r → after r x ≡ none
after_none x [] h = refl
after_none x (y ∷ r) h = rw (ne_eqb x y h.0) (after_none x r h.1)

pub before-none : (p x : ℕ) (r : List ℕ) → Fresh x r → before_from p r x ≡ none
before-none p x [] h = refl
before-none p x (y ∷ r) h = rw (ne_eqb x y h.0) (before-none y x r h.1)

pub fresh-unless : (x : ℕ) (xs : List ℕ) → (has x xs ≡ true → ⊥) → Fresh x xs
fresh-unless x xs h = go (has x xs) refl
  where
    go : (t : Bool) → has x xs ≡ t → Fresh x xs
    go true e = absurd (h e)
    go false e = not-has x xs e

-- ---- a list read back

pub follow-walk : (n : ℕ) → n ≤ none → (next : ℕ → ℕ) (l r : List ℕ) → Listed n (l ++ r)
    → ((i : ℕ) → has i (l ++ r) ≡ true → next i ≡ after (l ++ r) i)
    → (f : ℕ) → length r ≤ f → follow next f (head r) ≡ r
unfolding follow
follow-walk n small next l [] h g zero b = refl
follow-walk n small next l [] h g (suc f) b = refl
follow-walk n small next l (y ∷ r) h g zero b = absurd (not-suc-le-zero b)
follow-walk n small next l (y ∷ r) h g (suc f) b =
    let bound = (listed-right n l (y ∷ r) h).0 in
    let e = append_snoc l y r in
    rw (ne_eqb y none (omega arith), g y (has-mid y l r), after-mid n small y l r h)
    (ap (λ (k : List ℕ). y ∷ k)
    (follow-walk n small next (l ++ (y ∷ [])) r (rw (← e) at h)
    (rw (← e) at g) f (le_of_suc-le-suc b)))

pub length-tab : {A : Type 0} (n i : ℕ) (f : ℕ → A) → length (tab n i f) ≡ n
unfolding tab
length-tab zero i f = refl
length-tab (suc n) i f = ap suc (length-tab n (suc i) f)

pub replicate-tab : {A : Type 0} (n i : ℕ) (a : A) → replicate n a ≡ tab n i (λ _. a)
unfolding tab
replicate-tab zero i a = refl
replicate-tab (suc n) i a = ap (λ (l : _). a ∷ l) (replicate-tab n (suc i) a)

pub get_or-tab : {A : Type 0} (n i j : ℕ) (f : ℕ → A) (d : A) → j < n → get_or (tab n i f) j d ≡ f (i + j)
unfolding tab
get_or-tab zero i j f d b = absurd (not-suc-le-zero b)
get_or-tab (suc n) i zero f d b = ap f (sym (add-zero i))
get_or-tab (suc n) i (suc j) f d b = get_or-tab n (suc i) j f d (le_of_suc-le-suc b) ∙ ap f (suc-add i j ∙ sym (add-suc i j))
