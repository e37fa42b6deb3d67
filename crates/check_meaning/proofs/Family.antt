-- The size lists of the paragraph as one family, joined.
use Prim.Native.Nat.{ℕ, ◌<◌, ◌≤◌}
use mathlib.Core.Bool.{Bool, true}
use mathlib.Core.Logic.{◌≢◌, ⊎_elim}
use mathlib.Core.List.{List, []}
use mathlib.Core.Path.{◌≡◌, refl, sym, ap, subst}
use native.Mathlib.Omega.{arith}
use borrow.Author.Tests.{lt-ltb, le-ltb}
use lib.Dec.{ltb}
use lib.ListN.{length, get_or}
use Rattle.linked_lists.specs.Links.{pick, none, has, count}
use Rattle.linked_lists.proofs.Laws.{below?, true≢false}
use Rattle.linked_lists.proofs.Check.{length-count}
use Rattle.rules.specs.Rules.{size_lists}
use Rattle.rules_laws.proofs.Shelf.{num-lt, list-number-mono}
use Rattle.pool_state.specs.Shown.{at, key_at}
use Rattle.pool_state.specs.declared.MemoryAllocator.{MemoryAllocator}
use Rattle.check_links.specs.Walks.{size_at}
use Rattle.check_meaning.specs.Paragraph.{Enabled, BySize, InOrder, Meets}
use Rattle.check_meaning.proofs.Orders.{once-listed, count-length}
use Rattle.check_meaning.proofs.Joined.{joined, joined-has, has-joined, joined-order}

module _ (n : ℕ) (s : MemoryAllocator) where
  abbrev pub key : ℕ → ℕ
  key = key_at s.start s.end

  -- the enabled records of list k
  abbrev pub OfList : ℕ → ℕ → Type 0
  OfList k i = Enabled s i × (key i ≡ k)

  -- the head of list k; past the last list, none
  abbrev pub head_at : ℕ → ℕ
  head_at k = pick (ltb k size_lists) (get_or s.free_list k 0) none

  abbrev pub Row : ℕ → ℕ → Type 0
  Row k i = Meets n (OfList k) (BySize s) s.list_next s.list_prev i

  pub key-lt : (i : ℕ) → key i < size_lists
  key-lt i = num-lt (at s.start s.end i)

  pub family : ((k : ℕ) → k < size_lists → Row k (get_or s.free_list k 0)) → (k : ℕ) → Row k (head_at k)
  family rows k = ⊎_elim
      (λ (b : k < size_lists). subst (Row k) (sym (ap (λ (t : Bool). pick t (get_or s.free_list k 0) none) (lt-ltb k size_lists b))) (rows k b))
      (λ (b : size_lists ≤ k). record {
        list = [];
        leads = rw (le-ltb k size_lists b);
        exactly = λ x. (λ m. true≢false (sym m), λ w. absurd (let e = w.1.1 in let l = key-lt x in let z : ⊥ = omega arith in z));
        once = tt;
        order = tt;
        reverse = tt;
      })
      (below? k size_lists)

  larger : (x y : ℕ) → key x < key y → BySize s x y
  larger x y h = ⊎_elim
      (λ (b : size_at s.start s.end y < size_at s.start s.end x).
      absurd (let m = list-number-mono (size_at s.start s.end y) (size_at s.start s.end x) (omega arith) in let z : ⊥ = omega arith in z))
      (λ b. b)
      (below? (size_at s.start s.end y) (size_at s.start s.end x))

  module _ (rows : (k : ℕ) → Row k (head_at k)) where
    abbrev pub row : ℕ → List ℕ
    row k = (rows k).list

    pub row-keyed : (k x : ℕ) → has x (row k) ≡ true → key x ≡ k
    row-keyed k x h = (((rows k).exactly x).0 h).1.1

    abbrev pub all-rows : List ℕ
    all-rows = joined row size_lists 0

    -- exactly the enabled records stand in the lists
    pub rows_told : (x : ℕ) → has x all-rows ≡ true → (x < n) × Enabled s x
    rows_told x h =
        let w = joined-has key row row-keyed size_lists 0 x h in
        let v = ((rows (key x)).exactly x).0 w.2 in
        (v.0, v.1.0)

    pub rows-have : (x : ℕ) → x < n → Enabled s x → has x all-rows ≡ true
    rows-have x b u = has-joined key row row-keyed size_lists 0 x (omega arith) (omega (arith, key-lt x)) (((rows (key x)).exactly x).1 (b, (u, refl)))

    pub rows-once : InOrder (λ x y. x ≢ y) all-rows
    rows-once = joined-order key row row-keyed (λ x y. x ≢ y) (λ k. (rows k).once) (λ x y h e. let q : key x ≡ key y = ap key e in omega arith) size_lists 0

    pub rows-sizes : InOrder (BySize s) all-rows
    rows-sizes = joined-order key row row-keyed (BySize s) (λ k. (rows k).order) larger size_lists 0

-- ---- how many: a list of exactly the enabled records, once, has as many as there are

pub counted : (n : ℕ) (on : ℕ → Bool) (xs : List ℕ) → InOrder (λ x y. x ≢ y) xs → ((x : ℕ) → has x xs ≡ true → (x < n) × (on x ≡ true)) → ((x : ℕ) → x < n → on x ≡ true → has x xs ≡ true)
    → count on n ≡ length xs
counted n on xs o f g =
    let a = length-count on n xs (once-listed n xs o (λ x m. (f x m).0)) (λ x m. (f x m).1) in
    let b = count-length on n xs g in
    omega arith
