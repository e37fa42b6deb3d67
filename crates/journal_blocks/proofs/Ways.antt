-- What the tests of a block tell, one way through after the other. Assumes nothing.
use Prim.Native.Nat.{ℕ, ◌+◌, ◌-◌, ◌≤◌, ◌<◌}
use mathlib.Core.Bool.{Bool, true, false, cond, not}
use mathlib.Core.List.{List}
use mathlib.Core.Path.{◌≡◌, refl, sym, ap, ◌∙◌}
use lib.Dec.{eqb, leb}
use lib.ListN.{length, take, drop, length-drop, drop_of_length-le}
use lib.Seq.{take_all}
use native.Mathlib.Omega.{arith}
use borrow.Author.Tests.{le-leb, lt-leb, leb-true, eqb-true, eq-eqb, ne_eqb, not-true, not-false}
use Rattle.linked_lists.proofs.Laws.{true≢false}
use Rattle.journal_blocks.specs.Journal.{length_of, is_length_lem, is_kind_lem, size_in, kind_in, word_in, entry_in_lem, entry, whole_block, block_of, block_at}
use Rattle.journal_blocks.specs.declared.Entry.{Entry}
use Rattle.journal_blocks.specs.declared.Block.{Block}
use Rattle.journal_blocks.specs.declared.Block.TheVariants.{Call, End, Truncated, UnknownCall, WrongLength}
use Rattle.calls.specs.declared.Request.TheVariants.{Allocate, Reserve, Free}

-- ---- lengths and call bytes

pub length-reserve : (kind : ℕ) → kind ≡ 3 → 33 ≡ length_of kind
length-reserve kind e = rw (eq-eqb kind 3 e)

-- no call's length is less
pub least-length : (kind : ℕ) → 25 ≤ length_of kind
least-length kind = go (eqb kind 3)
  where
    go : (t : Bool) → 25 ≤ cond t 33 25
    go true = omega arith
    go false = omega arith

pub known-length : (size : ℕ) → is_length_lem size ≡ true → 25 ≤ size
known-length size h = go (eqb size 25) refl (eqb size 33) refl
  where
    go : (p : Bool) → eqb size 25 ≡ p → (q : Bool) → eqb size 33 ≡ q → 25 ≤ size
    go true f q g = let a = eqb-true size 25 f in omega arith
    go false f true g = let a = eqb-true size 33 g in omega arith
    go false f false g = true≢false (sym h ∙ rw (f, g))

-- a call byte that there is, and is neither of the first two
pub reserve-kind : (kind : ℕ) → is_kind_lem kind ≡ true → (kind ≡ 1 → ⊥) → (kind ≡ 2 → ⊥) → kind ≡ 3
reserve-kind kind h d e = go (leb 1 kind) refl (leb kind 3) refl
  where
    go : (p : Bool) → leb 1 kind ≡ p → (q : Bool) → leb kind 3 ≡ q → kind ≡ 3
    go true f true g = let a = leb-true 1 kind f in let b = leb-true kind 3 g in omega arith
    go true f false g = true≢false (sym h ∙ rw (f, g))
    go false f q g = true≢false (sym h ∙ rw f)

-- ---- a block that is there whole

module _ (r : List ℕ) (kind x y z : ℕ) (p : x ≡ word_in r 0) (q : y ≡ word_in r 1) (t : z ≡ word_in r 2) where
  pub free_in : kind ≡ 1 → entry (Free (record { 0 = x }) y) z ≡ entry_in_lem kind r
  free_in e = (λ i. entry (Free (record { 0 = p i }) (q i)) (t i)) ∙ rw (eq-eqb kind 1 e)

  pub allocate-in : kind ≡ 2 → entry (Allocate x y) z ≡ entry_in_lem kind r
  allocate-in e =
      let d : kind ≡ 1 → ⊥ = (λ h. omega arith) in
      (λ i. entry (Allocate (p i) (q i)) (t i)) ∙ rw (ne_eqb kind 1 d, eq-eqb kind 2 e)

  pub reserve-in : (kind ≡ 1 → ⊥) → (kind ≡ 2 → ⊥) → (a : ℕ) → a ≡ word_in r 3 → entry (Reserve (record { 0 = x }) y z) a ≡ entry_in_lem kind r
  reserve-in d e a u = (λ i. entry (Reserve (record { 0 = p i }) (q i) (t i)) (u i)) ∙ rw (ne_eqb kind 1 d, ne_eqb kind 2 e)

module _ (at size : ℕ) (r : List ℕ) (kind : ℕ) (is : kind ≡ kind_in r) (known : Bool) (tells : known ≡ is_kind_lem kind) where
  pub unknown-call : not known ≡ true → UnknownCall ≡ whole_block at size r
  unfolding whole_block
  unknown-call h = let e : is_kind_lem (kind_in r) ≡ false = ap is_kind_lem (sym is) ∙ sym tells ∙ not-true known h in rw e

  module _ (h : not known ≡ false) (l : ℕ) (length-is : l ≡ length_of kind) where
    is_known : is_kind_lem (kind_in r) ≡ true
    is_known = ap is_kind_lem (sym is) ∙ sym tells ∙ not-false known h

    same : l ≡ length_of (kind_in r)
    same = length-is ∙ ap length_of is

    pub wrong-length : (size ≡ l → ⊥) → WrongLength ≡ whole_block at size r
    unfolding whole_block
    wrong-length d = let e : eqb size (length_of (kind_in r)) ≡ false = ne_eqb size _ (λ p. d (p ∙ sym same)) in rw (is_known, e)

    pub a_call : size ≡ l → (e : Entry) → e ≡ entry_in_lem kind r → Call e (at + (2 + size)) ≡ whole_block at size r
    unfolding whole_block
    a_call p e q =
        let f : eqb size (length_of (kind_in r)) ≡ true = eq-eqb size _ (p ∙ same) in
        let g : e ≡ entry_in_lem (kind_in r) r = q ∙ ap (λ (k : ℕ). entry_in_lem k r) is in
        rw (is_known, f) (ap (λ (x : Entry). Call x (at + (2 + size))) g)

-- ---- any bytes

module _ (at : ℕ) (r : List ℕ) where
  pub no_bytes : length r ≡ 0 → End ≡ block_of at r
  unfolding block_of
  no_bytes h = rw (lt-leb 1 (length r) (omega arith))

  pub one_byte : 0 < length r → length r < 2 → Truncated ≡ block_of at r
  unfolding block_of
  one_byte h g = rw (le-leb 1 (length r) (omega arith), lt-leb 2 (length r) g)

  module _ (size : ℕ) (is : size ≡ size_in r) (some : 2 ≤ length r) (t : Bool) (tells : t ≡ is_length_lem size) where
    pub no_length : not t ≡ true → WrongLength ≡ block_of at r
    unfolding block_of
    no_length h =
        let e : is_length_lem (size_in r) ≡ false = ap is_length_lem (sym is) ∙ sym tells ∙ not-true t h in
        rw (le-leb 1 (length r) (omega arith), le-leb 2 (length r) some, e)

    module _ (h : not t ≡ false) where
      is-length : is_length_lem (size_in r) ≡ true
      is-length = ap is_length_lem (sym is) ∙ sym tells ∙ not-false t h

      pub cut_off : length r - 2 < size → Truncated ≡ block_of at r
      unfolding block_of
      cut_off g =
          let e : leb (2 + size_in r) (length r) ≡ false = lt-leb (2 + size_in r) (length r) (omega (arith, is)) in
          rw (le-leb 1 (length r) (omega arith), le-leb 2 (length r) some, is-length, e)

      pub all_there : size ≤ length r - 2 → (b : Block) → b ≡ whole_block at size r → b ≡ block_of at r
      unfolding block_of
      all_there g b q =
          let e : leb (2 + size_in r) (length r) ≡ true = le-leb (2 + size_in r) (length r) (omega (arith, is)) in
          q ∙ rw (le-leb 1 (length r) (omega arith), le-leb 2 (length r) some, is-length, e) (ap (λ (z : ℕ). whole_block at z r) is)

pub past_end : (l : List ℕ) (at : ℕ) → length l ≤ at → End ≡ block_at l at
past_end l at h = no_bytes at (drop at l) (ap length (drop_of_length-le l {i = at} h))

pub rest_read : (l : List ℕ) (at : ℕ) (b : Block) → b ≡ block_of at (take (length l - at) (drop at l)) → b ≡ block_at l at
rest_read l at b q = q ∙ ap (block_of at) (take_all (length l - at) (drop at l) (omega (arith, length-drop at l)))
