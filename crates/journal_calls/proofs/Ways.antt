-- What the journal's calls return and leave, one way through after the other. Assumes nothing.
use Prim.Native.Nat.{ℕ, ◌+◌, ◌^◌, ◌≤◌, ◌<◌}
use mathlib.Core.Bool.{Bool, true, false, cond}
use mathlib.Core.List.{List, [], ◌∷◌, ◌++◌}
use mathlib.Core.Path.{◌≡◌, refl, sym, ap, ◌∙◌, subst}
use lib.IntN.{ℤ, pos}
use lib.ListN.{length, get_or, drop, length-drop}
use lib.Seq.{sets, sets-eq}
use native.Mathlib.Omega.{arith}
use borrow.Author.Tests.{leb-true, leb-false, le-leb, lt-leb}
use Rattle.std.specs.Prelude.{Err, None}
use Rattle.linked_lists.proofs.Laws.{true≢false}
use Rattle.script_texts.specs.Answers.{fits, written, past, Puts}
use Rattle.calls.specs.Calls.{signed_of}
use Rattle.calls.specs.declared.MemoryError.TheVariants.{InvalidEntry, InvalidRequest}
use Rattle.calls.specs.declared.Request.{Request}
use Rattle.calls.specs.declared.Request.TheVariants.{Allocate, Reserve, Free}
use Rattle.batch.specs.InWords.{asked_of, words_of_lem, asked, asked_at_lem, Asked}
use Rattle.journal_blocks.specs.Journal.{version, block_at}
use Rattle.journal_blocks.specs.declared.Entry.{Entry}
use Rattle.journal_blocks.specs.declared.Block.{Block}
use Rattle.journal_blocks.specs.declared.Block.TheVariants as block
use Rattle.journal_blocks.proofs.Seen.{Ahead, ahead}
use Rattle.journal_audit.specs.declared.Verdict.{Verdict}
use Rattle.journal_calls.specs.Calls.{Left, left, put_over, write_over, entry_words, stored_over, block_over, read_over, Reports}

-- ---- bytes that are written, or not

module _ (t l : List ℕ) (at : ℕ) (some : 0 < length t) (m : List ℕ) (r : ℕ) (p : Puts t l at m r) where
  moves : (r ≡ at → ⊥) → fits t l at ≡ true
  unfolding past
  moves d = go (fits t l at) p.next
    where
      go : (q : Bool) → r ≡ cond q (at + length t) at → q ≡ true
      go true e = refl
      go false e = absurd (d e)

  stays : r ≡ at → fits t l at ≡ false
  unfolding past
  stays e = go (fits t l at) p.next
    where
      go : (q : Bool) → r ≡ cond q (at + length t) at → q ≡ false
      go true f = absurd (let v : ⊥ = omega arith in v)
      go false f = refl

  pub not-put : r ≡ at → left (signed_of (Err InvalidRequest)) m ≡ put_over t l at
  unfolding put_over
  not-put e = let b = p.bytes in rw (stays e) (λ i. left (signed_of (Err InvalidRequest)) (b i))

  pub is-place : (r ≡ at → ⊥) → r ≡ at + length t
  unfolding past
  is-place d = p.next ∙ rw (moves d)

  pub in-room : (r ≡ at → ⊥) → at + length t ≤ length l
  in-room d = leb-true _ _ (moves d)

  pub is-put : (r ≡ at → ⊥) → (z : ℤ) → z ≡ pos r → left z m ≡ put_over t l at
  unfolding put_over
  is-put d z e = let b = p.bytes in let q = e ∙ ap pos (is-place d) in rw (moves d) (λ i. left (q i) (b i))

pub no_room : (t l : List ℕ) (at : ℕ) → length l < at + length t → left (signed_of (Err InvalidRequest)) l ≡ put_over t l at
unfolding put_over written
no_room t l at h = rw (lt-leb (at + length t) (length l) h)

-- the version byte
pub version-place : (l m : List ℕ) (r : ℕ) → 0 < length l → Puts (version ∷ []) l 0 m r → r ≡ 1
unfolding past
version-place l m r h p = p.next ∙ rw (le-leb 1 (length l) h)

-- a number that a call has returned
pub same_number : (z y : ℤ) (m : List ℕ) (r : Left) → z ≡ y → left y m ≡ r → left z m ≡ r
same_number z y m r e f = ap (λ (x : ℤ). left x m) e ∙ f

-- ---- calls in words

pub written-call : (kind x y z i : ℕ) (l : List ℕ) (at : ℕ) (w : Asked) → w ≡ asked_at_lem (kind ∷ x ∷ y ∷ z ∷ []) 0 → (a : Asked) → w ≡ a → (r : Left) → r ≡ write_over a i l at
    → r ≡ write_over (asked_of kind x y z) i l at
unfolding asked
written-call kind x y z i l at w e a f r g = g ∙ ap (λ (k : Asked). write_over k i l at) (sym f ∙ e)

-- ---- words that are stored

four : (q : Request) → get_or (words_of_lem q) 0 0 ∷ get_or (words_of_lem q) 1 0 ∷ get_or (words_of_lem q) 2 0 ∷ get_or (words_of_lem q) 3 0 ∷ [] ≡ words_of_lem q
four (Free a z) = refl
four (Allocate z o) = refl
four (Reserve a z o) = refl

module _ (e : Entry) (next : ℕ) (old : List ℕ) where
  pub too_few : length old < 5 → left (signed_of (Err InvalidRequest)) old ≡ stored_over e next old
  unfolding stored_over
  too_few h = rw (lt-leb 5 (length old) h)

  pub stored : 5 ≤ length old → (call : List ℕ) → call ≡ words_of_lem e.request → (z : ℤ) → z ≡ pos next
      → left z (sets old 0 (get_or call 0 0 ∷ get_or call 1 0 ∷ get_or call 2 0 ∷ get_or call 3 0 ∷ e.answer ∷ [])) ≡ stored_over e next old
  unfolding stored_over
  stored h call is z ez =
      let ws : List ℕ = get_or call 0 0 ∷ get_or call 1 0 ∷ get_or call 2 0 ∷ get_or call 3 0 ∷ e.answer ∷ [] in
      let first = sets-eq ws old 0 h in
      let words : ws ++ drop 5 old ≡ entry_words e ++ drop 5 old =
      ap (λ (c : List ℕ). (get_or c 0 0 ∷ get_or c 1 0 ∷ get_or c 2 0 ∷ get_or c 3 0 ∷ e.answer ∷ []) ++ drop 5 old) is ∙ ap (λ (c : List ℕ). (c ++ (e.answer ∷ [])) ++ drop 5 old) (four e.request) in
      let all = first ∙ words in
      rw (le-leb 5 (length old) h) (λ i. left (ez i) (all i))

-- ---- a block that is read

module _ (l : List ℕ) (at : ℕ) (old : List ℕ) where
  pub past_end : length l < at → left (signed_of (Err InvalidRequest)) old ≡ read_over l at old
  unfolding read_over
  past_end h = rw (lt-leb at (length l) h)

  pub read-over : at ≤ length l → (w : Block) → w ≡ block_at l at → (u : Block) → w ≡ u → (r : Left) → r ≡ block_over u old → r ≡ read_over l at old
  unfolding read_over
  read-over h w e u f r g = g ∙ ap (λ (b : Block). block_over b old) (sym f ∙ e) ∙ rw (le-leb at (length l) h)

  pub next-within : at ≤ length l → (w : Block) → w ≡ block_at l at → (e : Entry) (next : ℕ) → w ≡ block.Call e next → next ≤ length l
  next-within h w e c next f =
      let a = subst (Ahead at (drop at l)) (sym e ∙ f) (ahead at (drop at l)) in
      let b = a.1 in
      omega (arith, length-drop at l)

-- ---- reports

pub reports : (v w : Verdict) → w ≡ v → (u : Verdict) → w ≡ u → (old : ℕ) (r : ℤ) (f : ℕ) → Reports u old r f → Reports v old r f
reports v w e u g old r f h = subst (λ (x : Verdict). Reports x old r f) (sym g ∙ e) h
