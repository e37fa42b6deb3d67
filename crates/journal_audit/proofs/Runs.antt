-- What an audit has passed is what a box writes that makes its calls by the rules, and of such blocks it passes all. n is the number of
-- records. Assumes nothing.
use Prim.Native.Nat.{ℕ, zero, suc, ◌+◌, ◌-◌, ◌≤◌, ◌<◌}
use mathlib.Core.Bool.{Bool, true, false, cond}
use mathlib.Core.List.{List, [], ◌∷◌, ◌++◌, append_assoc}
use mathlib.Core.Path.{◌≡◌, refl, sym, ap, ◌∙◌}
use mathlib.Core.Logic.{◌⊎◌, inl, inr}
use lib.Dec.{eqb}
use lib.ListN.{length, drop, length-append, drop_of_length-le}
use lib.Seq.{drop-drop}
use native.Mathlib.Omega.{arith}
use borrow.Author.Tests.{eqb-true, eqb-false, eq-eqb}
use Rattle.rules.specs.Rules.{Book}
use Rattle.pool_state.specs.State.{state_of}
use Rattle.pool_state.specs.declared.MemoryAllocator.{MemoryAllocator}
use Rattle.calls.specs.declared.Request.{Request}
use Rattle.bytes_be.specs.Numbers.{Bytes}
use Rattle.journal_blocks.specs.Journal.{entry, block_bytes, blocks_bytes, block_at, AllFit}
use Rattle.journal_blocks.specs.declared.Entry.{Entry}
use Rattle.journal_blocks.specs.declared.Block.{Block}
use Rattle.journal_blocks.specs.declared.Block.TheVariants as block
use Rattle.journal_blocks.proofs.Rounds.{block_size, block-at, end-at, after_block}
use Rattle.journal_blocks.proofs.Back.{Begins, Says, says, bytes-from}
use Rattle.journal_audit.specs.Audit.{Audited, answer_bits_lem, replayed, stands, judged_by, audit_from_lem}
use Rattle.journal_audit.specs.Vouchers.{recorded, left_by}
use Rattle.journal_audit.specs.declared.Stop.{Stop}
use Rattle.journal_audit.specs.declared.Stop.TheVariants as stop

-- a call whose answer differs from what the rules answer on the book b
pub record Differing (n : ℕ) (b : Book) (r : List ℕ) : Type 0 where
  pub call : Entry
  pub rest : List ℕ
  pub bytes : r ≡ block_bytes call ++ rest
  pub differs : answer_bits_lem (replayed n b call.request) ≡ call.answer → ⊥

-- why an audit stops where the bytes r stand, which say w
abbrev pub Stops : ℕ → Book → List ℕ → Block → Stop → Type 0
Stops n b r w stop.More = (w ≡ block.End) ⊎ (w ≡ block.Truncated)
Stops n b r w stop.Differs = Differing n b r
Stops n b r w stop.UnknownCall = w ≡ block.UnknownCall
Stops n b r w stop.WrongLength = w ≡ block.WrongLength

-- the state of an audit is what the calls leave that agree; one that differs has been made, too
abbrev pub Left : Stop → MemoryAllocator → MemoryAllocator → Type 0
Left stop.More s t = s ≡ t
Left stop.Differs s t = Unit {0}
Left stop.UnknownCall s t = s ≡ t
Left stop.WrongLength s t = s ≡ t

-- an audit of l from the place `at`, the index i and the book b on has passed the blocks of the calls qs, as the rules answer them
pub record Ran (n : ℕ) (l : List ℕ) (at i : ℕ) (b : Book) (d : Audited) : Type 0 where
  pub calls : List Request
  pub bytes : drop at l ≡ blocks_bytes (recorded n b calls) ++ drop d.used l
  pub place : d.used ≡ at + length (blocks_bytes (recorded n b calls))
  pub index : d.auditing.index ≡ i + length calls
  pub state : Left d.stop d.auditing.state (state_of n (left_by n b calls))
  pub fit : AllFit (recorded n b calls)
  pub stops : Stops n (left_by n b calls) (drop d.used l) (block_at l d.used) d.stop

module _ (n : ℕ) (l : List ℕ) where
  same-stand : (at at' i i' : ℕ) (b : Book) → at ≡ at' → i ≡ i' → stands n at i b stop.More ≡ stands n at' i' b stop.More
  same-stand at at' i i' b p q = (λ x. stands n (p x) (q x) b stop.More)

  -- it stops at once
  stays : (at i : ℕ) (b c : Book) (s : Stop) → Left s (state_of n c) (state_of n b) → Stops n b (drop at l) (block_at l at) s → Ran n l at i b (stands n at i c s)
  unfolding recorded left_by blocks_bytes AllFit
  stays at i b c s e h = record { calls = []; bytes = refl; place = omega arith; index = omega arith; state = e; fit = tt; stops = h }

  -- it passes a call, and goes on
  passes : (at i : ℕ) (b : Book) (e : Entry) (next : ℕ) → Begins at (drop at l) e next → answer_bits_lem (replayed n b e.request) ≡ e.answer
      → (d : Audited) → Ran n l next (suc i) (replayed n b e.request).book d → Ran n l at i b d
  unfolding recorded left_by blocks_bytes AllFit
  passes at i b e next h same d g =
      let q = e.request in
      let is : block_bytes e ≡ block_bytes (entry q (answer_bits_lem (replayed n b q))) = ap (λ (x : ℕ). block_bytes (entry q x)) (sym same) in
      let rest = blocks_bytes (recorded n (replayed n b q).book g.calls) in
      let here = h.place in
      let past : drop (length (block_bytes e)) (drop at l) ≡ drop next l = drop-drop (length (block_bytes e)) at l ∙ ap (λ (m : ℕ). drop m l) (sym here) in
      let size = length-append (block_bytes (entry q (answer_bits_lem (replayed n b q)))) rest in
      let same_size = ap length is in
      let p = g.place in
      let j = g.index in
      record {
        calls = q ∷ g.calls;
        bytes = h.bytes ∙ (λ x. is x ++ (past ∙ g.bytes) x) ∙ sym (append_assoc (block_bytes (entry q (answer_bits_lem (replayed n b q)))) rest (drop d.used l));
        place = omega arith;
        index = omega arith;
        state = g.state;
        fit = ((h.fit.0, rw same h.fit.1), g.fit);
        stops = g.stops;
      }

  -- Whatever an audit reports, it has passed calls that the rules answer just so.
  pub runs : Bytes l → (k at i : ℕ) (b : Book) → length l - at ≤ k → Ran n l at i b (audit_from_lem n k l at i b)
  unfolding audit_from_lem
  runs bytes zero at i b few = stays at i b b stop.More refl (inl (end-at l at (drop_of_length-le l {i = at} (omega arith))))
  runs bytes (suc k) at i b few = go (block_at l at) refl (says at (drop at l) (bytes-from l at bytes)) (λ next j d more. runs bytes k next j d (omega arith))
    where
      go : (w : Block) → block_at l at ≡ w → Says at (drop at l) w → ((next j : ℕ) (d : Book) → at < next → Ran n l next j d (audit_from_lem n k l next j d))
          → Ran n l at i b (judged_by n (audit_from_lem n k l) at i b w)
      go (block.Call e next) is h ih = test (eqb (answer_bits_lem (replayed n b e.request)) e.answer) refl
        where
          test : (t : Bool) → eqb (answer_bits_lem (replayed n b e.request)) e.answer ≡ t
              → Ran n l at i b (cond t (audit_from_lem n k l next (suc i) (replayed n b e.request).book) (stands n at i (replayed n b e.request).book stop.Differs))
          test true f = passes at i b e next h (eqb-true _ _ f) _ (ih next (suc i) _ (let p = h.place in let s = block_size e in omega arith))
          test false f = stays at i b _ stop.Differs tt (record { call = e; rest = _; bytes = h.bytes; differs = eqb-false _ _ f })
      go block.End is h ih = stays at i b b stop.More refl (inl is)
      go block.Truncated is h ih = stays at i b b stop.More refl (inr is)
      go block.UnknownCall is h ih = stays at i b b stop.UnknownCall refl is
      go block.WrongLength is h ih = stays at i b b stop.WrongLength refl is

  -- Of the blocks that a box writes by the rules, an audit passes all.
  pub replays : (k at i : ℕ) (b : Book) (qs : List Request) → AllFit (recorded n b qs) → drop at l ≡ blocks_bytes (recorded n b qs) → length qs ≤ k
      → audit_from_lem n k l at i b ≡ stands n (at + length (blocks_bytes (recorded n b qs))) (i + length qs) (left_by n b qs) stop.More
  unfolding audit_from_lem recorded left_by blocks_bytes AllFit
  replays zero at i b [] f h g = same-stand at (at + 0) i (i + 0) b (omega arith) (omega arith)
  replays zero at i b (q ∷ qs) f h g = absurd (let v : ⊥ = omega arith in v)
  replays (suc k) at i b [] f h g = ap (judged_by n (audit_from_lem n k l) at i b) (end-at l at h) ∙ same-stand at (at + 0) i (i + 0) b (omega arith) (omega arith)
  replays (suc k) at i b (q ∷ qs) f h g =
      let e : Entry = entry q (answer_bits_lem (replayed n b q)) in
      let rest = blocks_bytes (recorded n (replayed n b q).book qs) in
      let size = length-append (block_bytes e) rest in
      let next = at + length (block_bytes e) in
      ap (judged_by n (audit_from_lem n k l) at i b) (block-at l at e rest f.0 h)
      ∙ rw (eq-eqb (answer_bits_lem (replayed n b q)) (answer_bits_lem (replayed n b q)) refl)
      (replays k next (suc i) (replayed n b q).book qs f.1 (after_block l at e rest h) (omega arith)
      ∙ same-stand (next + length rest) (at + length (block_bytes e ++ rest)) (suc i + length qs) (i + suc (length qs)) _ (omega arith) (omega arith))
