-- Entries that are read from words, and stored in them, one after another. Assumes nothing.
use mathlib.Core.Path.{◌≡◌, refl, sym, ap, ◌∙◌}
use mathlib.Core.List.{List}
use Prim.Native.Nat.{ℕ, zero, suc, ◌+◌, ◌*◌, ◌≤◌, ◌<◌}
use native.Mathlib.Numerals.{add-one}
use native.Mathlib.Omega.{arith}
use lib.ListN.{length, take, set, get_or, length-set}
use lib.Seq.{take_all, take-suc, take-suc-set, get_or-set_same, get_or-set_other}
use Rattle.holder_rules.specs.Register.{entries, entry, blank}
use Rattle.holder_rules.specs.declared.Entry.{Entry}
use Rattle.holder_words.specs.Words.{entry_at_lem, entries_in}

-- ---- read: the first i entries are those of the words

pub record Read (w : List ℕ) (r : List Entry) (i : ℕ) : Type 0 where
  pub size : length r ≡ entries
  pub done : take i r ≡ entries_in w i

module _ (w : List ℕ) where
  pub read_none : (r : List Entry) → length r ≡ entries → Read w r 0
  unfolding entries_in
  read_none r h = record { size = h; done = refl }

  pub read_more : (r : List Entry) (i : ℕ) (e : Entry) → i < entries → Read w r i → e ≡ entry_at_lem w i → Read w (set r i e) (i + 1)
  unfolding entries_in
  read_more r i e h d k =
      let s = d.size in
      record {
        size = length-set r i e ∙ s;
        done = rw (add-one i) (take-suc-set r i e (omega arith) ∙ rw (d.done, k));
      }

  pub read_all : (r : List Entry) (i : ℕ) → i ≡ entries → Read w r i → r ≡ entries_in w entries
  read_all r i h d = let s = d.size in sym (take_all i r (omega arith)) ∙ d.done ∙ ap (entries_in w) h

-- ---- stored: the words of the first i entries

pub record Stored (r : List Entry) (w : List ℕ) (i : ℕ) : Type 0 where
  pub size : length w ≡ 3 * entries
  pub done : entries_in w i ≡ take i r

-- a store past the words of k entries
untouched : (k : ℕ) (w : List ℕ) (j x : ℕ) → 3 * k ≤ j → entries_in (set w j x) k ≡ entries_in w k
unfolding entries_in
untouched zero w j x h = refl
untouched (suc k) w j x h =
    let a : get_or (set w j x) (3 * k) 0 ≡ get_or w (3 * k) 0 = get_or-set_other w j (3 * k) x 0 (λ e. omega arith) in
    let b : get_or (set w j x) (3 * k + 1) 0 ≡ get_or w (3 * k + 1) 0 = get_or-set_other w j (3 * k + 1) x 0 (λ e. omega arith) in
    let c : get_or (set w j x) (3 * k + 2) 0 ≡ get_or w (3 * k + 2) 0 = get_or-set_other w j (3 * k + 2) x 0 (λ e. omega arith) in
    rw (untouched k w j x (omega arith), a, b, c)

pub stored-none : (r : List Entry) (w : List ℕ) → length w ≡ 3 * entries → Stored r w 0
unfolding entries_in
stored-none r w h = record { size = h; done = refl }

module _ (r : List Entry) (w : List ℕ) (i a b c : ℕ) (h : i < entries) (size : length r ≡ entries) (d : Stored r w i) (is : get_or r i blank ≡ entry a b c) where
  abbrev w₁ : List ℕ
  w₁ = set w (3 * i) a

  abbrev w₂ : List ℕ
  w₂ = set w₁ (3 * i + 1) b

  abbrev w₃ : List ℕ
  w₃ = set w₂ (3 * i + 2) c

  size₁ : length w₁ ≡ 3 * entries
  size₁ = length-set w (3 * i) a ∙ d.size

  size₂ : length w₂ ≡ 3 * entries
  size₂ = length-set w₁ (3 * i + 1) b ∙ size₁

  first : get_or w₃ (3 * i) 0 ≡ a
  first =
      let s = d.size in
      get_or-set_other w₂ (3 * i + 2) (3 * i) c 0 (λ e. omega arith) ∙ get_or-set_other w₁ (3 * i + 1) (3 * i) b 0 (λ e. omega arith) ∙ get_or-set_same w (3 * i) a 0 (omega arith)

  second : get_or w₃ (3 * i + 1) 0 ≡ b
  second = let s = size₁ in get_or-set_other w₂ (3 * i + 2) (3 * i + 1) c 0 (λ e. omega arith) ∙ get_or-set_same w₁ (3 * i + 1) b 0 (omega arith)

  third : get_or w₃ (3 * i + 2) 0 ≡ c
  third = let s = size₂ in get_or-set_same w₂ (3 * i + 2) c 0 (omega arith)

  pub stored_more : Stored r w₃ (i + 1)
  unfolding entries_in
  stored_more =
      let before : entries_in w₃ i ≡ entries_in w i = untouched i w₂ (3 * i + 2) c (omega arith) ∙ untouched i w₁ (3 * i + 1) b (omega arith) ∙ untouched i w (3 * i) a (omega arith) in
      let s = size in
      record {
        size = length-set w₂ (3 * i + 2) c ∙ size₂;
        done = rw (add-one i) (rw (before, first, second, third, d.done, ← is) (sym (take-suc r i blank (omega arith))));
      }

pub stored-all : (r : List Entry) (w : List ℕ) (i : ℕ) → length r ≡ entries → i ≡ entries → Stored r w i → entries_in w entries ≡ r
stored-all r w i s h d = ap (entries_in w) (sym h) ∙ d.done ∙ take_all i r (omega arith)
