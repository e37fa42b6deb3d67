-- What the stores of a link do to a family of lists threaded through two arrays.
use Prim.Native.Nat.{ℕ, ◌<◌, ◌≤◌}
use mathlib.Core.Bool.{Bool, true}
use mathlib.Core.Logic.{◌≢◌, ⊎_elim}
use mathlib.Core.List.{List, [], ◌∷◌, ◌++◌}
use mathlib.Core.Path.{◌≡◌, sym, ap, ◌∙◌}
use lib.ListN.{length, get_or, set, length-set}
use lib.Seq.{get_or-set_same, get_or-set_other, append_snoc}
use lib.Dec.{eqb}
use native.Mathlib.Omega.{arith}
use borrow.Author.Tests.{eq-eqb, ne_eqb}
use Rattle.linked_lists.specs.Links.{pick, upd, none, after, before, without, Fresh, Listed, has}
use Rattle.linked_lists.specs.Threads.{Threads, cut, Between, Sets}
use Rattle.linked_lists.proofs.Laws.{same?, upd-at, upd_other, parted, listed-right, after-without, before-without, listed-without, after-mid, before-mid, last-in, head_in, has-without, after-put, before-put, listed-put, has-put, after_none, before-none, fresh-has, true≢false, by_parts}

-- an array that shows f, after a store
pub stored : {A : Type 0} (d : A) (n : ℕ) (xs : List A) (f : ℕ → A) (j : ℕ) (u : A)
    → length xs ≡ n → ((i : ℕ) → i < n → get_or xs i d ≡ f i)
    → (i : ℕ) → i < n → get_or (set xs j u) i d ≡ upd f j u i
stored d n xs f j u len h i b =
    ⊎_elim
    (λ (e : i ≡ j).
    rw e (get_or-set_same xs j u d (let b' : j < n = rw e at b in omega arith) ∙ sym (upd-at f j u)))
    (λ (e : i ≢ j). get_or-set_other xs j i u d e ∙ h i b ∙ sym (upd_other f j u i e))
    (same? i j)

-- two stores, one after the other
twice : (n : ℕ) (xs : List ℕ) (i u j v : ℕ) (ys zs : List ℕ) → length xs ≡ n → Sets n xs i u ys → Sets n ys j v zs → zs ≡ set (set xs i u) j v
twice n xs i u j v ys zs len e f =
    f (ap length (e len) ∙ length-set xs i u ∙ len) ∙ ap (λ (l : List ℕ). set l j v) (e len)

-- a link of each number, by the list of its key, where two numbers of key k are given new links
by_key : (key : ℕ → ℕ) (lists : ℕ → List ℕ) (F : List ℕ → ℕ → ℕ) (k : ℕ) (ys : List ℕ) (j u j' u' i : ℕ)
    → F ys i ≡ upd (upd (F (lists k)) j u) j' u' i
    → (i ≡ j → key i ≡ k) → (i ≡ j' → key i ≡ k)
    → upd (upd (λ h. F (lists (key h)) h) j u) j' u' i ≡ F (upd lists k ys (key i)) i
by_key key lists F k ys j u j' u' i e c c' =
    ⊎_elim
    (λ (q : key i ≡ k).
    ap (λ (c : ℕ). pick (eqb i j') u' (pick (eqb i j) u (F (lists c) i))) q
    ∙ sym e
    ∙ ap (λ (t : Bool). F (pick t ys (lists (key i))) i) (sym (eq-eqb (key i) k q)))
    (λ (q : key i ≢ k). rw (ne_eqb (key i) k q, ne_eqb i j' (λ h. q (c' h)), ne_eqb i j (λ h. q (c h))))
    (same? (key i) k)

-- what holds of ys, for k, and of each other list, holds of each
at-list : (lists : ℕ → List ℕ) (k : ℕ) (ys : List ℕ) (j : ℕ) (P : List ℕ → Type 0) → (j ≡ k → P ys) → P (lists j) → P (upd lists k ys j)
at-list lists k ys j P f g =
    ⊎_elim (λ (e : j ≡ k). rw (eq-eqb j k e) (f e)) (λ (e : j ≢ k). rw (ne_eqb j k e) g) (same? j k)

-- the neighbours of a number of a list are of that list
after-has : (n : ℕ) → n ≤ none → (i : ℕ) (xs : List ℕ) → has i xs ≡ true → Listed n xs → (j : ℕ) → j < none → j ≡ after xs i → has j xs ≡ true
after-has n small i =
    by_parts i (λ xs. Listed n xs → (j : ℕ) → j < none → j ≡ after xs i → has j xs ≡ true)
    λ l r h j b q.
    rw (append_snoc l i r) at (head_in j (l ++ (i ∷ [])) r b (q ∙ after-mid n small i l r h))

before-has : (n : ℕ) → n ≤ none → (i : ℕ) (xs : List ℕ) → has i xs ≡ true → Listed n xs → (j : ℕ) → j < none → j ≡ before xs i → has j xs ≡ true
before-has n small i =
    by_parts i (λ xs. Listed n xs → (j : ℕ) → j < none → j ≡ before xs i → has j xs ≡ true)
    λ l r h j b q. last-in j l (i ∷ r) b (q ∙ before-mid n small none i l r h)

module _ (n : ℕ) (small : n ≤ none) (key : ℕ → ℕ) (lists : ℕ → List ℕ) (prev next : List ℕ) (t : Threads n key lists prev next) where
  -- list k becomes ys, if the stores are those that ys wants
  relist : (k : ℕ) (ys : List ℕ) (n₁ x₁ n₂ x₂ p₁ y₁ p₂ y₂ : ℕ)
      → Listed n ys → ((i : ℕ) → has i ys ≡ true → key i ≡ k)
      → ((i : ℕ) → i < n → after ys i ≡ upd (upd (after (lists k)) n₁ x₁) n₂ x₂ i)
      → ((i : ℕ) → i < n → before ys i ≡ upd (upd (before (lists k)) p₁ y₁) p₂ y₂ i)
      → ((i : ℕ) → i < n → i ≡ n₁ → key i ≡ k) → ((i : ℕ) → i < n → i ≡ n₂ → key i ≡ k)
      → ((i : ℕ) → i < n → i ≡ p₁ → key i ≡ k) → ((i : ℕ) → i < n → i ≡ p₂ → key i ≡ k)
      → Threads n key (upd lists k ys) (set (set prev p₁ y₁) p₂ y₂) (set (set next n₁ x₁) n₂ x₂)
  relist k ys n₁ x₁ n₂ x₂ p₁ y₁ p₂ y₂ l h ea eb c₁ c₂ d₁ d₂ =
      record {
        prev-length = length-set (set prev p₁ y₁) p₂ y₂ ∙ length-set prev p₁ y₁ ∙ t.prev-length;
        next-length = length-set (set next n₁ x₁) n₂ x₂ ∙ length-set next n₁ x₁ ∙ t.next-length;
        listed = λ j. at-list lists k ys j (λ zs. Listed n zs) (λ e. l) (t.listed j);
        keyed = λ j i. at-list lists k ys j (λ zs. has i zs ≡ true → key i ≡ j) (λ e m. h i m ∙ sym e) (t.keyed j i);
        prevs = λ i b.
            stored 0 n (set prev p₁ y₁) (upd (λ h. before (lists (key h)) h) p₁ y₁) p₂ y₂
            (length-set prev p₁ y₁ ∙ t.prev-length)
            (stored 0 n prev (λ h. before (lists (key h)) h) p₁ y₁ t.prev-length t.prevs) i b
            ∙ by_key key lists before k ys p₁ y₁ p₂ y₂ i (eb i b) (d₁ i b) (d₂ i b);
        nexts = λ i b.
            stored 0 n (set next n₁ x₁) (upd (λ h. after (lists (key h)) h) n₁ x₁) n₂ x₂
            (length-set next n₁ x₁ ∙ t.next-length)
            (stored 0 n next (λ h. after (lists (key h)) h) n₁ x₁ t.next-length t.nexts) i b
            ∙ by_key key lists after k ys n₁ x₁ n₂ x₂ i (ea i b) (c₁ i b) (c₂ i b);
      }

  pub has-below : (k i : ℕ) → has i (lists k) ≡ true → i < n
  has-below k i h = let s = parted i (lists k) h in (listed-right n s.0 (i ∷ s.1) (rw s.2 at (t.listed k))).0

  -- the neighbours of a number of a list are of that list
  after-keyed : (k i : ℕ) → has i (lists k) ≡ true → (j : ℕ) → j < n → j ≡ after (lists k) i → key j ≡ k
  after-keyed k i h j b q = t.keyed k j (after-has n small i (lists k) h (t.listed k) j (omega arith) q)

  before-keyed : (k i : ℕ) → has i (lists k) ≡ true → (j : ℕ) → j < n → j ≡ before (lists k) i → key j ≡ k
  before-keyed k i h j b q = t.keyed k j (before-has n small i (lists k) h (t.listed k) j (omega arith) q)

  -- the four stores of `unlink`
  pub out : (i b a : ℕ) (p₁ p₂ x₁ x₂ : List ℕ) → has i (lists (key i)) ≡ true
      → b ≡ get_or prev i 0 → a ≡ get_or next i 0
      → Sets n next b a x₁ → Sets n prev a b p₁ → Sets n x₁ i none x₂ → Sets n p₁ i none p₂
      → Threads n key (cut key lists i) p₂ x₂
  out i b a p₁ p₂ x₁ x₂ h qb qa e₁ e₂ e₃ e₄ =
      let k = key i in
      let bi = has-below k i h in
      let qb' : b ≡ before (lists k) i = qb ∙ t.prevs i bi in
      let qa' : a ≡ after (lists k) i = qa ∙ t.nexts i bi in
      rw (twice n prev a b i none p₁ p₂ t.prev-length e₂ e₄, twice n next b a i none x₁ x₂ t.next-length e₁ e₃, qb', qa')
      (relist k (without i (lists k)) (before (lists k) i) (after (lists k) i) i none (after (lists k) i) (before (lists k) i) i none
      (listed-without n small i (lists k) h (t.listed k))
      (λ j m. t.keyed k j (has-without i j (lists k) m))
      (after-without n small i (lists k) h (t.listed k))
      (before-without n small i (lists k) h (t.listed k))
      (λ j bj q. before-keyed k i h j bj q) (λ j bj q. ap key q)
      (λ j bj q. after-keyed k i h j bj q) (λ j bj q. ap key q))

  -- the four stores of `link_between`
  pub into : (i b a : ℕ) (l r : List ℕ) (p₁ p₂ x₁ x₂ : List ℕ) → Between n key lists b i a l r
      → Sets n next b i x₁ → Sets n prev a i p₁ → Sets n x₁ i a x₂ → Sets n p₁ i b p₂
      → Threads n key (upd lists (key i) (l ++ i ∷ r)) p₂ x₂
  into i b a l r p₁ p₂ x₁ x₂ w e₁ e₂ e₃ e₄ =
      let k = key i in
      let e = w.parts in
      let put : Listed n (l ++ i ∷ r) = listed-put n i l r w.below w.fresh (rw e at (t.listed k)) in
      rw (twice n prev a i i b p₁ p₂ t.prev-length e₂ e₄, twice n next b i i a x₁ x₂ t.next-length e₁ e₃)
      (relist k (l ++ i ∷ r) b i i a a i i b put
      (λ j m. ⊎_elim (λ (q : j ≡ i). ap key q) (λ (q : has j (l ++ r) ≡ true). t.keyed k j (rw e q)) (has-put i j l r m))
      (λ j bj. rw (w.low, w.high, e) (after-put n small i l r put j bj))
      (λ j bj. rw (w.low, w.high, e) (before-put n small none i l r put j bj))
      (λ j bj q. t.keyed k j (rw e (last-in j l r (omega arith) (q ∙ w.low)))) (λ j bj q. ap key q)
      (λ j bj q. t.keyed k j (rw e (head_in j l r (omega arith) (q ∙ w.high)))) (λ j bj q. ap key q))

  -- keys of numbers in no list do not matter
  pub rekey : (key' : ℕ → ℕ) (i : ℕ) → ((j : ℕ) → j ≢ i → key' j ≡ key j) → ((k : ℕ) → Fresh i (lists k)) → Threads n key' lists prev next
  rekey key' i h f =
      record {
        prev-length = t.prev-length;
        next-length = t.next-length;
        listed = t.listed;
        keyed = λ k j m. ⊎_elim (λ (e : j ≡ i). absurd (not_in k (rw e at m))) (λ (e : j ≢ i). h j e ∙ t.keyed k j m) (same? j i);
        prevs = λ j b. t.prevs j b ∙ ⊎_elim (λ (e : j ≡ i). rw e (before-none none i (lists (key i)) (f (key i)) ∙ sym (before-none none i (lists (key' i)) (f (key' i))))) (λ (e : j ≢ i). ap (λ (k : ℕ). before (lists k) j) (sym (h j e))) (same? j i);
        nexts = λ j b. t.nexts j b ∙ ⊎_elim (λ (e : j ≡ i). rw e (after_none i (lists (key i)) (f (key i)) ∙ sym (after_none i (lists (key' i)) (f (key' i))))) (λ (e : j ≢ i). ap (λ (k : ℕ). after (lists k) j) (sym (h j e))) (same? j i);
      }
    where
      not_in : (k : ℕ) → has i (lists k) ≡ true → ⊥
      not_in k m = true≢false (sym m ∙ fresh-has i (lists k) (f k))

  -- a family whose lists are the same shows the same
  pub same_lists : (lists' : ℕ → List ℕ) → ((k : ℕ) → lists k ≡ lists' k) → Threads n key lists' prev next
  same_lists lists' h =
      record {
        prev-length = t.prev-length;
        next-length = t.next-length;
        listed = λ k. rw (h k) at (t.listed k);
        keyed = λ k i m. t.keyed k i (rw (h k) m);
        prevs = λ i b. t.prevs i b ∙ ap (λ (l : List ℕ). before l i) (h (key i));
        nexts = λ i b. t.nexts i b ∙ ap (λ (l : List ℕ). after l i) (h (key i));
      }
