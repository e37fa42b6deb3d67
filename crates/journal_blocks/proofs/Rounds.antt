-- What the writer writes, the reader reads, for any list of calls with any answers; and a journal without a fault is what the writer
-- writes of what was read. Assumes nothing.
use Prim.Native.Nat.{ℕ, zero, suc, ◌+◌, ◌*◌, ◌^◌, ◌≤◌, ◌<◌}
use mathlib.Core.Bool.{true}
use mathlib.Core.List.{List, [], ◌∷◌, ◌++◌, append_assoc}
use mathlib.Core.Path.{◌≡◌, refl, sym, ap, ◌∙◌}
use lib.Dec.{eqb}
use lib.ListN.{length, take, drop, get_or, length-append}
use lib.Seq.{drop_at, drop-drop, take_all}
use native.Mathlib.Omega.{arith}
use borrow.Author.Tests.{le-leb}
use Rattle.bytes_be.specs.Numbers.{be, number}
use Rattle.bytes_be.proofs.Laws.{length-be, number-be}
use Rattle.image_parts.specs.Read.{number_in}
use Rattle.image_parts.proofs.Places.{number-in, number_at}
use Rattle.calls.specs.declared.Request.{Request}
use Rattle.calls.specs.declared.Request.TheVariants.{Allocate, Reserve, Free}
use Rattle.journal_blocks.specs.Journal.{length_of, word_bytes, laid_out, block_bytes, blocks_bytes, journal_bytes, is_length_lem, is_kind_lem, size_in, kind_in, word_in, entry, entry_in_lem, whole_block, block_of, block_at, Contents, contents, followed_by, read_from, read_all, Fit, Fits, AllFit}
use Rattle.journal_blocks.specs.declared.Entry.{Entry}
use Rattle.journal_blocks.specs.declared.Block.TheVariants.{Call, End}
use Rattle.journal_blocks.proofs.Laid.{length-laid}

-- ---- what is laid out is read

module _ (kind : ℕ) (words post : List ℕ) (one : kind < 256) (few : length words ≤ 4) where
  abbrev front : List ℕ
  front = laid_out kind words ++ post

  abbrev behind : List ℕ
  behind = word_bytes words ++ post

  size : ℕ
  size = 1 + 8 * length words

  parts : front ≡ be 2 (1 + 8 * length words) ++ (be 1 kind ++ behind)
  unfolding laid_out
  parts = simp append_assoc

  pub size-laid : size_in front ≡ 1 + 8 * length words
  size-laid =
      ap (λ (l : List ℕ). number_in l 0 2) parts ∙ number-in [] (be 2 (1 + 8 * length words)) (be 1 kind ++ behind) 0 2 refl (length-be 2 _)
      ∙ number-be 2 (1 + 8 * length words) (omega arith)

  pub kind-laid : kind_in front ≡ kind
  kind-laid =
      ap (λ (l : List ℕ). number_in l 2 1) parts ∙ number-in (be 2 (1 + 8 * length words)) (be 1 kind) behind 2 1 (length-be 2 _) (length-be 1 _)
      ∙ number-be 1 kind (omega arith)

  pub word-laid : (j : ℕ) → j < length words → get_or words j 0 < 2 ^ 64 → word_in front j ≡ get_or words j 0
  unfolding word_bytes
  word-laid j h small =
      let p : List ℕ = be 2 (1 + 8 * length words) ++ be 1 kind in
      let lp : length p ≡ 3 = length-append (be 2 (1 + 8 * length words)) (be 1 kind) ∙ (let a = length-be 2 (1 + 8 * length words) in let b = length-be 1 kind in omega arith) in
      let e : front ≡ p ++ behind = parts ∙ sym (append_assoc (be 2 (1 + 8 * length words)) (be 1 kind) behind) in
      let x = get_or words j 0 in
      let all : take 8 (be 8 x) ≡ be 8 x = take_all 8 (be 8 x) (let a = length-be 8 x in omega arith) in
      ap (λ (l : List ℕ). number_in l (3 + 8 * j) 8) e
      ∙ number_at (λ k. be 8 (get_or words k 0)) p post 3 8 (length words) j lp (λ k. length-be 8 _) h 0 8 (omega arith)
      ∙ ap number all ∙ number-be 8 x (omega arith)

  pub length_front : length front ≡ 3 + 8 * length words + length post
  length_front = length-append (laid_out kind words) post ∙ ap (λ (m : ℕ). m + length post) (length-laid kind words)

  block-laid : (at : ℕ) → is_length_lem (1 + 8 * length words) ≡ true → is_kind_lem kind ≡ true → eqb (1 + 8 * length words) (length_of kind) ≡ true
      → block_of at front ≡ Call (entry_in_lem kind front) (at + (2 + (1 + 8 * length words)))
  unfolding block_of whole_block
  block-laid at sized known fits =
      let l = length_front in
      rw (le-leb 1 (length front) (omega arith), le-leb 2 (length front) (omega arith), size-laid, sized, le-leb (2 + (1 + 8 * length words)) (length front) (omega arith), kind-laid, known, fits)

-- the block of a call, with anything behind it
pub block_written : (at : ℕ) (e : Entry) (post : List ℕ) → Fits e → block_of at (block_bytes e ++ post) ≡ Call e (at + length (block_bytes e))
block_written at e post h = go e.request e.answer h.0 h.1
  where
    go : (q : Request) (i : ℕ) → Fit q → i < 2 ^ 64 → block_of at (block_bytes (entry q i) ++ post) ≡ Call (entry q i) (at + length (block_bytes (entry q i)))
    go (Free a z) i f g =
        let ws : List ℕ = a.0 ∷ z ∷ i ∷ [] in
        let few : length ws ≤ 4 = omega arith in
        let one : 1 < 256 = omega arith in
        let w0 = word-laid 1 ws post one few 0 (omega arith) f.0 in
        let w1 = word-laid 1 ws post one few 1 (omega arith) f.1 in
        let w2 = word-laid 1 ws post one few 2 (omega arith) g in
        let s = sym (length-laid 1 ws) in
        block-laid 1 ws post one few at refl refl refl ∙ (λ j. Call (entry (Free (record { 0 = w0 j }) (w1 j)) (w2 j)) (at + s j))
    go (Allocate z o) i f g =
        let ws : List ℕ = z ∷ o ∷ i ∷ [] in
        let few : length ws ≤ 4 = omega arith in
        let one : 2 < 256 = omega arith in
        let w0 = word-laid 2 ws post one few 0 (omega arith) f.0 in
        let w1 = word-laid 2 ws post one few 1 (omega arith) f.1 in
        let w2 = word-laid 2 ws post one few 2 (omega arith) g in
        let s = sym (length-laid 2 ws) in
        block-laid 2 ws post one few at refl refl refl ∙ (λ j. Call (entry (Allocate (w0 j) (w1 j)) (w2 j)) (at + s j))
    go (Reserve a z o) i f g =
        let ws : List ℕ = a.0 ∷ z ∷ o ∷ i ∷ [] in
        let few : length ws ≤ 4 = omega arith in
        let one : 3 < 256 = omega arith in
        let w0 = word-laid 3 ws post one few 0 (omega arith) f.0 in
        let w1 = word-laid 3 ws post one few 1 (omega arith) f.1 in
        let w2 = word-laid 3 ws post one few 2 (omega arith) f.2 in
        let w3 = word-laid 3 ws post one few 3 (omega arith) g in
        let s = sym (length-laid 3 ws) in
        block-laid 3 ws post one few at refl refl refl ∙ (λ j. Call (entry (Reserve (record { 0 = w0 j }) (w1 j) (w2 j)) (w3 j)) (at + s j))

pub block_size : (e : Entry) → 27 ≤ length (block_bytes e)
block_size e = go e.request e.answer
  where
    go : (q : Request) (i : ℕ) → 27 ≤ length (block_bytes (entry q i))
    go (Free a z) i = omega (arith, length-laid 1 (a.0 ∷ z ∷ i ∷ []))
    go (Allocate z o) i = omega (arith, length-laid 2 (z ∷ o ∷ i ∷ []))
    go (Reserve a z o) i = omega (arith, length-laid 3 (a.0 ∷ z ∷ o ∷ i ∷ []))

-- behind the block of a call stands what follows it
pub after_block : (l : List ℕ) (at : ℕ) (e : Entry) (post : List ℕ) → drop at l ≡ block_bytes e ++ post → drop (at + length (block_bytes e)) l ≡ post
after_block l at e post h = sym (drop-drop (length (block_bytes e)) at l) ∙ ap (drop (length (block_bytes e))) h ∙ drop_at (block_bytes e) post (length (block_bytes e)) refl

pub block-at : (l : List ℕ) (at : ℕ) (e : Entry) (post : List ℕ) → Fits e → drop at l ≡ block_bytes e ++ post → block_at l at ≡ Call e (at + length (block_bytes e))
block-at l at e post f h = ap (block_of at) h ∙ block_written at e post f

pub end-at : (l : List ℕ) (at : ℕ) → drop at l ≡ [] → block_at l at ≡ End
unfolding block_of
end-at l at h = ap (block_of at) h

read-blocks : (k : ℕ) (l : List ℕ) (at : ℕ) (es : List Entry) → AllFit es → drop at l ≡ blocks_bytes es → length es ≤ k → read_from k l at ≡ contents es End
unfolding read_from blocks_bytes AllFit
read-blocks zero l at [] f h g = refl
read-blocks zero l at (e ∷ es) f h g = absurd (let v : ⊥ = omega arith in v)
read-blocks (suc k) l at [] f h g = ap (followed_by (read_from k l)) (end-at l at h)
read-blocks (suc k) l at (e ∷ es) f h g =
    let ih = read-blocks k l (at + length (block_bytes e)) es f.1 (after_block l at e (blocks_bytes es) h) (omega arith) in
    ap (followed_by (read_from k l)) (block-at l at e (blocks_bytes es) f.0 h) ∙ ap (λ (c : Contents). contents (e ∷ c.entries) c.ending) ih

pub blocks-length : (es : List Entry) → length es ≤ length (blocks_bytes es)
unfolding blocks_bytes
blocks-length [] = omega arith
blocks-length (e ∷ es) = let a = length-append (block_bytes e) (blocks_bytes es) in let b = block_size e in let ih = blocks-length es in omega arith

-- What the writer writes, the reader reads.
pub read-written : (es : List Entry) → AllFit es → read_all (journal_bytes es) ≡ contents es End
read-written es f = read-blocks (length (blocks_bytes es)) (blocks_bytes es) 0 es f refl (blocks-length es)
