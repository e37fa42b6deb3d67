-- What each report of an audit says of the journal. n is the number of records. Assumes nothing.
use Prim.Native.Nat.{ℕ, suc, ◌+◌, ◌^◌, ◌≤◌, ◌<◌}
use mathlib.Core.Bool.{Bool, true, false, cond}
use mathlib.Core.List.{List, [], ◌∷◌, ◌++◌, append-nil}
use mathlib.Core.Path.{◌≡◌, refl, sym, ap, ◌∙◌, subst}
use lib.Dec.{eqb, lit<}
use lib.ListN.{length, drop}
use lib.Seq.{drop-length}
use native.Mathlib.Omega.{arith}
use borrow.Author.Tests.{eqb-true, eq-eqb}
use Rattle.std.specs.Prelude.{Ok, Err}
use Rattle.linked_lists.specs.Links.{none}
use Rattle.linked_lists.proofs.Laws.{true≢false}
use Rattle.rules.specs.Rules.{top, Book, empty, total}
use Rattle.rules.specs.Sound.{Sound}
use Rattle.rules_laws.proofs.Lists.{if}
use Rattle.rules_laws.proofs.Kept.{empty-sound}
use Rattle.rules_laws.proofs.Steps.{step-sound}
use Rattle.pool_state.specs.State.{state_of}
use Rattle.pool_state.specs.declared.MemoryAllocator.{MemoryAllocator}
use Rattle.pool_state.proofs.Book.{book-back}
use Rattle.calls.specs.Calls.{Answer, call_of, address_of, answer_of, signed_of}
use Rattle.calls.specs.declared.MemoryError.TheVariants.{NoEntry, InvalidEntry, NoMemory, InvalidRequest}
use Rattle.calls.specs.declared.Request.{Request}
use Rattle.calls.proofs.Below.{step-below}
use Rattle.bytes_be.specs.Numbers.{Bytes}
use Rattle.journal_blocks.specs.Bits.{bits_of}
use Rattle.journal_blocks.specs.Journal.{version, blocks_bytes, journal_bytes, versioned, block_at, Fit, AllFit}
use Rattle.journal_blocks.proofs.Rounds.{blocks-length}
use Rattle.journal_blocks.proofs.Back.{bytes-from, begun}
use Rattle.journal_audit.specs.Audit as audit
use Rattle.journal_audit.specs.Audit.{answer_bits_lem, replayed, stands, audit_from_lem, audited_on, verdict_for, verdict_of_lem, audit_of}
use Rattle.journal_audit.specs.Vouchers.{recorded, left_by}
use Rattle.journal_audit.specs.declared.Stop.{Stop}
use Rattle.journal_audit.specs.declared.Stop.TheVariants as stop
use Rattle.journal_audit.specs.declared.Verdict.{Verdict}
use Rattle.journal_audit.specs.declared.Verdict.TheVariants.{Agrees, Differs, Truncated, UnknownCall, WrongLength, NoVersion}
use Rattle.journal_audit.proofs.Runs.{Differing, Stops, Left, Ran, runs, replays}

-- ---- reports tell their reasons

abbrev agrees? : Verdict → Bool
agrees? (Agrees t) = true
agrees? (Differs i) = false
agrees? (Truncated i) = false
agrees? (UnknownCall i) = false
agrees? (WrongLength i) = false
agrees? NoVersion = false

abbrev differs? : Verdict → Bool
differs? (Agrees t) = false
differs? (Differs i) = true
differs? (Truncated i) = false
differs? (UnknownCall i) = false
differs? (WrongLength i) = false
differs? NoVersion = false

-- the figure beside a report
abbrev figure : Verdict → ℕ
figure (Agrees t) = t
figure (Differs i) = i
figure (Truncated i) = i
figure (UnknownCall i) = i
figure (WrongLength i) = i
figure NoVersion = 0

never : (v w : Verdict) (p : Verdict → Bool) → v ≡ w → p v ≡ false → p w ≡ true → ⊥
never v w p e f g = true≢false (sym g ∙ sym (ap p e) ∙ f)

-- what agrees has no more blocks
agreed : (s : Stop) (size used i u t : ℕ) → verdict_for s size used i u ≡ Agrees t → (s ≡ stop.More) × (used ≡ size) × (t ≡ u)
agreed stop.More size used i u t e = go (eqb used size) refl e
  where
    go : (q : Bool) → eqb used size ≡ q → cond q (Agrees u) (Truncated i) ≡ Agrees t → (stop.More ≡ stop.More) × (used ≡ size) × (t ≡ u)
    go true f g = (refl, eqb-true used size f, sym (ap figure g))
    go false f g = absurd (never _ _ agrees? g refl refl)
agreed stop.Differs size used i u t e = absurd (never _ _ agrees? e refl refl)
agreed stop.UnknownCall size used i u t e = absurd (never _ _ agrees? e refl refl)
agreed stop.WrongLength size used i u t e = absurd (never _ _ agrees? e refl refl)

differed : (s : Stop) (size used i u j : ℕ) → verdict_for s size used i u ≡ Differs j → (s ≡ stop.Differs) × (j ≡ i)
differed stop.More size used i u j e = go (eqb used size) e
  where
    go : (q : Bool) → cond q (Agrees u) (Truncated i) ≡ Differs j → (stop.More ≡ stop.Differs) × (j ≡ i)
    go true g = absurd (never _ _ differs? g refl refl)
    go false g = absurd (never _ _ differs? g refl refl)
differed stop.Differs size used i u j e = (refl, sym (ap figure e))
differed stop.UnknownCall size used i u j e = absurd (never _ _ differs? e refl refl)
differed stop.WrongLength size used i u j e = absurd (never _ _ differs? e refl refl)

-- the journal has a version, or that is what is reported
has-version : (n : ℕ) (l : List ℕ) (v : Verdict) (p : Verdict → Bool) → audit_of n l ≡ v → p NoVersion ≡ false → p v ≡ true
    → (l ≡ version ∷ drop 1 l) × (verdict_of_lem (length (drop 1 l)) (audited_on n (audit.begun n) (drop 1 l)) ≡ v)
has-version n l v p e f g = go (versioned l) refl e
  where
    go : (t : Bool) → versioned l ≡ t → cond t (verdict_of_lem (length (drop 1 l)) (audited_on n (audit.begun n) (drop 1 l))) NoVersion ≡ v
        → (l ≡ version ∷ drop 1 l) × (verdict_of_lem (length (drop 1 l)) (audited_on n (audit.begun n) (drop 1 l)) ≡ v)
    go true h k = (begun l (eqb-true _ _ h), k)
    go false h k = absurd (never _ _ p k f g)

-- ---- what the rules answer fits its bits

abbrev Low : Answer → Type 0
Low w = address_of w < top

pub answered-below : (k a : ℕ) → a < top → address_of (answer_of k a) < top
answered-below k a h =
    if (eqb k 0) Low (λ _. h) (λ _. if (eqb k 1) Low (λ _. lit< tt) (λ _. if (eqb k 2) Low (λ _. lit< tt) (λ _. if (eqb k 3) Low (λ _. lit< tt) (λ _. lit< tt))))

bits_below : (k : Answer) → address_of k < top → bits_of (signed_of k) < 2 ^ 64
bits_below (Ok a) h = omega arith
bits_below (Err NoEntry) h = lit< tt
bits_below (Err InvalidEntry) h = lit< tt
bits_below (Err NoMemory) h = lit< tt
bits_below (Err InvalidRequest) h = lit< tt

-- the numbers of the requests are of 64 bits
unfoldable pub AllAsk : List Request → Type 0
AllAsk [] = Unit {0}
AllAsk (q ∷ qs) = Fit q × AllAsk qs

pub recorded-fit : (n : ℕ) (b : Book) → Sound n b → (qs : List Request) → AllAsk qs → AllFit (recorded n b qs)
unfolding AllAsk AllFit recorded
recorded-fit n b s [] f = tt
recorded-fit n b s (q ∷ qs) f =
    let w = replayed n b q in (
      (f.0, bits_below (answer_of w.number w.address) (answered-below w.number w.address (step-below n b (call_of q) s))),
      recorded-fit n w.book (step-sound n b (call_of q) s) qs f.1,
    )

recorded-length : (n : ℕ) (b : Book) (qs : List Request) → length (recorded n b qs) ≡ length qs
unfolding recorded
recorded-length n b [] = refl
recorded-length n b (q ∷ qs) = ap suc (recorded-length n (replayed n b q).book qs)

-- ---- the reports

-- the journal is what a box writes that makes these calls by the rules, from empty; the total is what they leave
pub record Agreeing (n : ℕ) (l : List ℕ) (t : ℕ) : Type 0 where
  pub calls : List Request
  pub bytes : l ≡ journal_bytes (recorded n empty calls)
  pub final : t ≡ total (left_by n empty calls)
  pub fit : AllFit (recorded n empty calls)

-- i calls are what a box writes by the rules, and the next one is answered otherwise
pub record DifferingAt (n : ℕ) (l : List ℕ) (i : ℕ) : Type 0 where
  pub calls : List Request
  pub count : length calls ≡ i
  pub rest : List ℕ
  pub bytes : l ≡ journal_bytes (recorded n empty calls) ++ rest
  pub first : Differing n (left_by n empty calls) rest

module _ (n : ℕ) (small : n ≤ none) where
  from_empty : (r : List ℕ) → audited_on n (audit.begun n) r ≡ audit_from_lem n (length r) r 0 0 empty
  from_empty r = ap (audit_from_lem n (length r) r 0 0) (book-back n small empty (empty-sound n))

  ran : (l : List ℕ) → Bytes l → Ran n (drop 1 l) 0 0 empty (audited_on n (audit.begun n) (drop 1 l))
  ran l bytes = subst (Ran n (drop 1 l) 0 0 empty) (sym (from_empty (drop 1 l))) (runs n (drop 1 l) (bytes-from l 1 bytes) (length (drop 1 l)) 0 0 empty (omega arith))

  module _ (l : List ℕ) (bytes : Bytes l) where
    -- What agrees is what the writer writes of calls made by the rules from empty, and the total is what they leave;
    pub agrees-only : (t : ℕ) → audit_of n l ≡ Agrees t → Agreeing n l t
    unfolding state_of
    agrees-only t e =
        let v = has-version n l (Agrees t) agrees? e refl refl in
        let r = ran l bytes in
        let d = audited_on n (audit.begun n) (drop 1 l) in
        let a = agreed d.stop (length (drop 1 l)) d.used d.auditing.index d.auditing.state.free_size t v.1 in
        let nothing : drop d.used (drop 1 l) ≡ [] = ap (λ (m : ℕ). drop m (drop 1 l)) a.1 ∙ drop-length (drop 1 l) in
        let blocks = blocks_bytes (recorded n empty r.calls) in
        let left : d.auditing.state ≡ state_of n (left_by n empty r.calls) = subst (λ (x : Stop). Left x d.auditing.state (state_of n (left_by n empty r.calls))) a.0 r.state in
        record {
          calls = r.calls;
          bytes = v.0 ∙ ap (λ (x : List ℕ). version ∷ x) (r.bytes ∙ ap (λ (x : List ℕ). blocks ++ x) nothing ∙ append-nil blocks);
          final = a.2 ∙ ap (λ (s : MemoryAllocator). s.free_size) left;
          fit = r.fit;
        }

    -- What differs does so at the call of that index, and at none before it.
    pub differs-first : (i : ℕ) → audit_of n l ≡ Differs i → DifferingAt n l i
    differs-first i e =
        let v = has-version n l (Differs i) differs? e refl refl in
        let r = ran l bytes in
        let d = audited_on n (audit.begun n) (drop 1 l) in
        let a = differed d.stop (length (drop 1 l)) d.used d.auditing.index d.auditing.state.free_size i v.1 in
        record {
          calls = r.calls;
          count = let j = r.index in let k = a.1 in omega arith;
          rest = drop d.used (drop 1 l);
          bytes = v.0 ∙ ap (λ (x : List ℕ). version ∷ x) r.bytes;
          first = subst (Stops n (left_by n empty r.calls) (drop d.used (drop 1 l)) (block_at (drop 1 l) d.used)) a.0 r.stops;
        }

  -- and all of it agrees.
  pub agrees-all : (qs : List Request) → AllAsk qs → audit_of n (journal_bytes (recorded n empty qs)) ≡ Agrees (total (left_by n empty qs))
  unfolding state_of
  agrees-all qs f =
      let r = blocks_bytes (recorded n empty qs) in
      let fit = recorded-fit n empty (empty-sound n) qs f in
      let few : length qs ≤ length r = let a = recorded-length n empty qs in let b = blocks-length (recorded n empty qs) in omega arith in
      let e : audited_on n (audit.begun n) r ≡ stands n (0 + length r) (0 + length qs) (left_by n empty qs) stop.More = from_empty r ∙ replays n r (length r) 0 0 empty qs fit refl few in
      ap (verdict_of_lem (length r)) e ∙ rw (eq-eqb (0 + length r) (length r) (omega arith))
