-- A journal without a fault is what the writer writes of what was read. Assumes nothing.
use Prim.Native.Nat.{ℕ, zero, suc, ◌+◌, ◌*◌, ◌-◌, ◌^◌, ◌≤◌, ◌<◌}
use mathlib.Core.Bool.{Bool, true, false}
use mathlib.Core.List.{List, [], ◌∷◌, ◌++◌}
use mathlib.Core.Path.{◌≡◌, refl, sym, ap, ◌∙◌}
use lib.Dec.{T, leb, leb→le}
use lib.ListN.{length, take, drop, get_or, length-drop, take-append-drop, drop_of_length-le}
use lib.Seq.{drop-drop, get_or-drop}
use native.Mathlib.Omega.{arith}
use borrow.Author.Tests.{eqb-true}
use Rattle.linked_lists.proofs.Laws.{true≢false}
use Rattle.rules_laws.proofs.Lists.{and_r}
use Rattle.bytes_be.specs.Numbers.{be, Bytes}
use Rattle.image_parts.proofs.Places.{beside, again, part-below, joined-take}
use Rattle.journal_blocks.specs.Journal.{version, length_of, word_bytes, laid_out, block_bytes, blocks_bytes, journal_bytes, versioned, is_kind_lem, size_in, kind_in, word_in, entry_in_lem, block_of, block_at, followed_by, read_from, read_all, Fits, AllFit}
use Rattle.journal_blocks.specs.declared.Entry.{Entry}
use Rattle.journal_blocks.specs.declared.Block.{Block}
use Rattle.journal_blocks.specs.declared.Block.TheVariants.{Call, End, Truncated, UnknownCall, WrongLength}
use Rattle.journal_blocks.proofs.Laid.{length-laid}
use Rattle.journal_blocks.proofs.Seen.{Whole, Seen, none, short, unsized, unknown, unfit, call, seen}
use Rattle.journal_blocks.proofs.Rounds.{block_size}

-- the bytes r begin with the block of e, and the place after it is `next`
pub record Begins (at : ℕ) (r : List ℕ) (e : Entry) (next : ℕ) : Type 0 where
  pub fit : Fits e
  pub place : next ≡ at + length (block_bytes e)
  pub bytes : r ≡ block_bytes e ++ drop (length (block_bytes e)) r
  pub room : length (block_bytes e) ≤ length r

-- the words that stand in r, laid out again
module _ (r : List ℕ) (bytes : Bytes r) (kind : ℕ) (words : List ℕ) (room : 3 + 8 * length words ≤ length r)
    (sized : size_in r ≡ 1 + 8 * length words) (is : kind_in r ≡ kind) (same : (j : ℕ) → j < length words → get_or words j 0 ≡ word_in r j) where
  abbrev n : ℕ
  n = length words

  word_room : (j : ℕ) → j < n → 3 + 8 * j + 8 ≤ length r
  word_room j h = omega arith

  words-again : word_bytes words ≡ take (8 * n) (drop 3 r)
  unfolding word_bytes
  words-again = joined-take _ r 3 8 n 0 (λ j h. let g : j < n = omega arith in ap (be 8) (same j g) ∙ again r (3 + 8 * j) 8 bytes (word_room j g))

  kind-again : be 1 kind ≡ take 1 (drop 2 r)
  kind-again = ap (be 1) (sym is) ∙ again r 2 1 bytes (omega arith)

  size-again : be 2 (1 + 8 * n) ≡ take 2 (drop 0 r)
  size-again = ap (be 2) (sym sized) ∙ again r 0 2 bytes (omega arith)

  laid-again : laid_out kind words ≡ take (3 + 8 * n) r
  unfolding laid_out
  laid-again = beside r 0 2 (1 + 8 * n) 2 (3 + 8 * n) _ _ size-again (beside r 2 1 (8 * n) 3 (1 + 8 * n) _ _ kind-again words-again refl refl) refl (omega arith)

  pub block-again : r ≡ laid_out kind words ++ drop (length (laid_out kind words)) r
  block-again =
      sym (take-append-drop (3 + 8 * n) r) ∙ (λ i. laid-again' i ++ drop (size' i) r)
    where
      laid-again' : take (3 + 8 * n) r ≡ laid_out kind words
      laid-again' = sym laid-again

      size' : 3 + 8 * n ≡ length (laid_out kind words)
      size' = sym (length-laid kind words)

  pub words-fit : (j : ℕ) → j < n → get_or words j 0 < 2 ^ 64
  words-fit j h = let p = part-below r (3 + 8 * j) 8 bytes (word_room j h) in let q = same j h in omega arith

-- a block of each kind
module _ (at : ℕ) (r : List ℕ) (bytes : Bytes r) (w : Whole r) where
  same-three : (j : ℕ) → j < 3 → get_or (word_in r 0 ∷ word_in r 1 ∷ word_in r 2 ∷ []) j 0 ≡ word_in r j
  same-three zero h = refl
  same-three (suc zero) h = refl
  same-three (suc (suc zero)) h = refl
  same-three (suc (suc (suc j))) h = absurd (let v : ⊥ = omega arith in v)

  same-four : (j : ℕ) → j < 4 → get_or (word_in r 0 ∷ word_in r 1 ∷ word_in r 2 ∷ word_in r 3 ∷ []) j 0 ≡ word_in r j
  same-four zero h = refl
  same-four (suc zero) h = refl
  same-four (suc (suc zero)) h = refl
  same-four (suc (suc (suc zero))) h = refl
  same-four (suc (suc (suc (suc j)))) h = absurd (let v : ⊥ = omega arith in v)

  begins-free : kind_in r ≡ 1 → size_in r ≡ 25 → Begins at r (entry_in_lem 1 r) (at + (2 + size_in r))
  begins-free is sized =
      let ws : List ℕ = word_in r 0 ∷ word_in r 1 ∷ word_in r 2 ∷ [] in
      let room : 3 + 8 * length ws ≤ length r = let q = w.there in omega arith in
      let f = words-fit r bytes 1 ws room sized is same-three in
      let l = length-laid 1 ws in
      record { fit = ((f 0 (omega arith), f 1 (omega arith)), f 2 (omega arith)); place = omega arith; bytes = block-again r bytes 1 ws room sized is same-three; room = omega arith }

  begins-allocate : kind_in r ≡ 2 → size_in r ≡ 25 → Begins at r (entry_in_lem 2 r) (at + (2 + size_in r))
  begins-allocate is sized =
      let ws : List ℕ = word_in r 0 ∷ word_in r 1 ∷ word_in r 2 ∷ [] in
      let room : 3 + 8 * length ws ≤ length r = let q = w.there in omega arith in
      let f = words-fit r bytes 2 ws room sized is same-three in
      let l = length-laid 2 ws in
      record { fit = ((f 0 (omega arith), f 1 (omega arith)), f 2 (omega arith)); place = omega arith; bytes = block-again r bytes 2 ws room sized is same-three; room = omega arith }

  begins-reserve : kind_in r ≡ 3 → size_in r ≡ 33 → Begins at r (entry_in_lem 3 r) (at + (2 + size_in r))
  begins-reserve is sized =
      let ws : List ℕ = word_in r 0 ∷ word_in r 1 ∷ word_in r 2 ∷ word_in r 3 ∷ [] in
      let room : 3 + 8 * length ws ≤ length r = let q = w.there in omega arith in
      let f = words-fit r bytes 3 ws room sized is same-four in
      let l = length-laid 3 ws in
      record {
        fit = ((f 0 (omega arith), f 1 (omega arith), f 2 (omega arith)), f 3 (omega arith));
        place = omega arith;
        bytes = block-again r bytes 3 ws room sized is same-four;
        room = omega arith;
      }

  begins : T (is_kind_lem (kind_in r)) → size_in r ≡ length_of (kind_in r) → Begins at r (entry_in_lem (kind_in r) r) (at + (2 + size_in r))
  begins k e = go (kind_in r) refl k e
    where
      go : (kind : ℕ) → kind_in r ≡ kind → T (is_kind_lem kind) → size_in r ≡ length_of kind → Begins at r (entry_in_lem kind r) (at + (2 + size_in r))
      go zero is t sized = absurd t
      go (suc zero) is t sized = begins-free is sized
      go (suc (suc zero)) is t sized = begins-allocate is sized
      go (suc (suc (suc zero))) is t sized = begins-reserve is sized
      go (suc (suc (suc (suc kind)))) is t sized =
          absurd (let h : suc (suc (suc (suc kind))) ≤ 3 = leb→le (suc (suc (suc (suc kind)))) 3
          (and_r (leb 1 (suc (suc (suc (suc kind))))) (leb (suc (suc (suc (suc kind)))) 3) t) in let v : ⊥ = omega arith in v)

-- what a place says, of bytes
abbrev pub Says : ℕ → List ℕ → Block → Type 0
Says at r (Call e next) = Begins at r e next
Says at r End = r ≡ []
Says at r Truncated = Unit {0}
Says at r UnknownCall = Unit {0}
Says at r WrongLength = Unit {0}

no_bytes : (r : List ℕ) → length r ≡ 0 → r ≡ []
no_bytes [] h = refl
no_bytes (x ∷ r) h = absurd (let v : ⊥ = omega arith in v)

pub says : (at : ℕ) (r : List ℕ) → Bytes r → Says at r (block_of at r)
says at r bytes = go (block_of at r) (seen at r)
  where
    go : (w : Block) → Seen at r w → Says at r w
    go _ (none h) = no_bytes r h
    go _ short = tt
    go _ (unsized h d) = tt
    go _ (unknown w d) = tt
    go _ (unfit w k d) = tt
    go _ (call w k e) = begins at r bytes w k e

pub bytes-from : (l : List ℕ) (at : ℕ) → Bytes l → Bytes (drop at l)
bytes-from l at bytes i h = rw (get_or-drop at l i 0) (bytes (at + i) (let d = length-drop at l in omega arith))

-- ---- all of a journal

abbrev ends : Block → Bool
ends (Call e next) = false
ends End = true
ends Truncated = false
ends UnknownCall = false
ends WrongLength = false

fault-ends : (w : Block) → ends w ≡ false → w ≡ End → ⊥
fault-ends w f e = true≢false (sym (ap ends e) ∙ f)

-- the blocks from a place on are those of what was read
pub record Rewritten (r : List ℕ) (es : List Entry) : Type 0 where
  pub bytes : r ≡ blocks_bytes es
  pub fit : AllFit es

module _ (l : List ℕ) (bytes : Bytes l) where
  pub rewritten : (k at : ℕ) → length l - at ≤ k → (read_from k l at).ending ≡ End → Rewritten (drop at l) (read_from k l at).entries
  unfolding read_from blocks_bytes AllFit
  rewritten zero at few e = record { bytes = drop_of_length-le l {i = at} (omega arith); fit = tt }
  rewritten (suc k) at few e = go (block_at l at) (says at (drop at l) (bytes-from l at bytes)) (λ next more. rewritten k next (omega arith)) e
    where
      go : (w : Block) → Says at (drop at l) w → ((next : ℕ) → at < next → (read_from k l next).ending ≡ End → Rewritten (drop next l) (read_from k l next).entries)
          → (followed_by (read_from k l) w).ending ≡ End → Rewritten (drop at l) (followed_by (read_from k l) w).entries
      go (Call e next) s ih h =
          let size = block_size e in
          let p = s.place in
          let rest = ih next (omega arith) h in
          let next-is : drop (length (block_bytes e)) (drop at l) ≡ drop next l = drop-drop (length (block_bytes e)) at l ∙ ap (λ (m : ℕ). drop m l) (sym p) in
          record { bytes = s.bytes ∙ ap (λ (t : List ℕ). block_bytes e ++ t) (next-is ∙ rest.bytes); fit = (s.fit, rest.fit) }
      go End s ih h = record { bytes = s; fit = tt }
      go Truncated s ih h = absurd (fault-ends Truncated refl h)
      go UnknownCall s ih h = absurd (fault-ends UnknownCall refl h)
      go WrongLength s ih h = absurd (fault-ends WrongLength refl h)

-- a journal is its version and its blocks
pub begun : (l : List ℕ) → get_or l 0 0 ≡ version → l ≡ version ∷ drop 1 l
begun [] h = absurd (let v : ⊥ = omega arith in v)
begun (x ∷ l) h = ap (λ (y : ℕ). y ∷ l) h

-- A journal without a fault is what the writer writes of what was read.
pub written_read : (l : List ℕ) → Bytes l → versioned l ≡ true → (read_all l).ending ≡ End → (l ≡ journal_bytes (read_all l).entries) × AllFit (read_all l).entries
written_read l bytes v e =
    let rest = rewritten (drop 1 l) (bytes-from l 1 bytes) (length (drop 1 l)) 0 (omega arith) e in
    (begun l (eqb-true _ _ v) ∙ ap (λ (t : List ℕ). version ∷ t) rest.bytes, rest.fit)
