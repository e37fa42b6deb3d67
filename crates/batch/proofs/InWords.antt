-- Calls in words: how many there are, where their words stand, and where a list may be cut. Assumes nothing.
use Prim.Native.Nat.{ℕ, zero, suc, ◌+◌, ◌*◌, ◌/◌, ◌%◌, ◌<◌, ◌≤◌}
use mathlib.Core.Bool.{true}
use mathlib.Core.List.{List, [], ◌∷◌, ◌++◌}
use mathlib.Core.Path.{◌≡◌, refl, sym, ap, ◌∙◌}
use lib.Dec.{eqb}
use lib.ListN.{length, get_or, take}
use native.Mathlib.Omega.{arith}
use Rattle.std.specs.Prelude.{Some, None}
use Rattle.linked_lists.proofs.Laws.{true≢false}
use Rattle.calls.specs.declared.Request.TheVariants.{Allocate, Reserve, Free}
use Rattle.batch.specs.InWords.{asked_of, asked_by_lem, asked, whole, Asked}
use Rattle.batch.specs.declared.Words.{Words}

pub asked-length : (l : List ℕ) → length (asked l) ≡ length l / 4
unfolding asked
asked-length [] = refl
asked-length (kind ∷ []) = refl
asked-length (kind ∷ x ∷ []) = refl
asked-length (kind ∷ x ∷ y ∷ []) = refl
asked-length (kind ∷ x ∷ y ∷ z ∷ l) = let ih = asked-length l in omega arith

pub whole_length : (l : List ℕ) → whole l ≡ eqb (length l % 4) 0
unfolding whole
whole_length [] = refl
whole_length (kind ∷ []) = refl
whole_length (kind ∷ x ∷ []) = refl
whole_length (kind ∷ x ∷ y ∷ []) = refl
whole_length (kind ∷ x ∷ y ∷ z ∷ l) =
    let e : suc (suc (suc (suc (length l)))) % 4 ≡ length l % 4 = omega arith in whole_length l ∙ ap (λ (m : ℕ). eqb m 0) (sym e)

-- a call further on, a word stands four places further
next_word : (a b c d : ℕ) (l : List ℕ) (i j : ℕ) → get_or (a ∷ b ∷ c ∷ d ∷ l) (suc i * 4 + j) 0 ≡ get_or l (i * 4 + j) 0
next_word a b c d l i j =
    let e : suc i * 4 + j ≡ suc (suc (suc (suc (i * 4 + j)))) = omega arith in ap (λ (m : ℕ). get_or (a ∷ b ∷ c ∷ d ∷ l) m 0) e

-- the words of call k
abbrev words_from : List ℕ → ℕ → Asked
words_from l k = asked_of (get_or l (k * 4 + 0) 0) (get_or l (k * 4 + 1) 0) (get_or l (k * 4 + 2) 0) (get_or l (k * 4 + 3) 0)

words-from : (l : List ℕ) (k : ℕ) → k < length (asked l) → words_from l k ≡ get_or (asked l) k None
unfolding asked
words-from [] k h = absurd (let v : ⊥ = omega arith in v)
words-from (kind ∷ []) k h = absurd (let v : ⊥ = omega arith in v)
words-from (kind ∷ x ∷ []) k h = absurd (let v : ⊥ = omega arith in v)
words-from (kind ∷ x ∷ y ∷ []) k h = absurd (let v : ⊥ = omega arith in v)
words-from (kind ∷ x ∷ y ∷ z ∷ l) zero h = refl
words-from (kind ∷ x ∷ y ∷ z ∷ l) (suc k) h =
    let w = next_word kind x y z l k in
    let w0 = w 0 in
    let w1 = w 1 in
    let w2 = w 2 in
    let w3 = w 3 in
    (λ i. asked_of (w0 i) (w1 i) (w2 i) (w3 i)) ∙ words-from l k (omega arith)

pub words-at : (l : List ℕ) (k : ℕ) → k < length (asked l) → asked_of (get_or l (k * 4) 0) (get_or l (k * 4 + 1) 0) (get_or l (k * 4 + 2) 0) (get_or l (k * 4 + 3) 0) ≡ get_or (asked l) k None
words-at l k h =
    let e : k * 4 ≡ k * 4 + 0 = omega arith in
    ap (λ (m : ℕ). asked_of (get_or l m 0) (get_or l (k * 4 + 1) 0) (get_or l (k * 4 + 2) 0) (get_or l (k * 4 + 3) 0)) e ∙ words-from l k h

-- ---- what the words of a call ask for, by its kind

module _ (w : Words) where
  pub free-asked : w.kind ≡ 1 → Some (Free (record { 0 = w.x }) w.y) ≡ asked_by_lem w
  free-asked e = ap (λ (k : ℕ). asked_of k w.x w.y w.z) (sym e)

  pub allocate-asked : w.kind ≡ 2 → Some (Allocate w.x w.y) ≡ asked_by_lem w
  allocate-asked e = ap (λ (k : ℕ). asked_of k w.x w.y w.z) (sym e)

  pub reserve-asked : w.kind ≡ 3 → Some (Reserve (record { 0 = w.x }) w.y w.z) ≡ asked_by_lem w
  reserve-asked e = ap (λ (k : ℕ). asked_of k w.x w.y w.z) (sym e)

-- ---- cuts

-- behind whole calls come the calls of what follows
pub asked-append : (l m : List ℕ) → whole l ≡ true → asked (l ++ m) ≡ asked l ++ asked m
unfolding asked whole
asked-append [] m h = refl
asked-append (kind ∷ []) m h = true≢false (sym h)
asked-append (kind ∷ x ∷ []) m h = true≢false (sym h)
asked-append (kind ∷ x ∷ y ∷ []) m h = true≢false (sym h)
asked-append (kind ∷ x ∷ y ∷ z ∷ l) m h = ap (λ (qs : List Asked). asked_of kind x y z ∷ qs) (asked-append l m h)

pub whole_append : (l m : List ℕ) → whole l ≡ true → whole (l ++ m) ≡ whole m
unfolding whole
whole_append [] m h = refl
whole_append (kind ∷ []) m h = true≢false (sym h)
whole_append (kind ∷ x ∷ []) m h = true≢false (sym h)
whole_append (kind ∷ x ∷ y ∷ []) m h = true≢false (sym h)
whole_append (kind ∷ x ∷ y ∷ z ∷ l) m h = whole_append l m h

-- the first k calls
pub record First (l : List ℕ) (k : ℕ) : Type 0 where
  pub all_whole : whole (take (k * 4) l) ≡ true
  pub count : length (asked (take (k * 4) l)) ≡ k

pub first-calls : (l : List ℕ) (k : ℕ) → k ≤ length (asked l) → First l k
unfolding asked whole
first-calls l zero h = record { all_whole = refl; count = refl }
first-calls [] (suc k) h = absurd (let v : ⊥ = omega arith in v)
first-calls (kind ∷ []) (suc k) h = absurd (let v : ⊥ = omega arith in v)
first-calls (kind ∷ x ∷ []) (suc k) h = absurd (let v : ⊥ = omega arith in v)
first-calls (kind ∷ x ∷ y ∷ []) (suc k) h = absurd (let v : ⊥ = omega arith in v)
first-calls (kind ∷ x ∷ y ∷ z ∷ l) (suc k) h =
    let e : suc k * 4 ≡ suc (suc (suc (suc (k * 4)))) = omega arith in
    let f = first-calls l k (omega arith) in
    record {
      all_whole = ap (λ (m : ℕ). whole (take m (kind ∷ x ∷ y ∷ z ∷ l))) e ∙ f.all_whole;
      count = ap (λ (m : ℕ). length (asked (take m (kind ∷ x ∷ y ∷ z ∷ l)))) e ∙ ap suc f.count;
    }
