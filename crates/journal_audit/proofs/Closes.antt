-- The books close from the journal itself: of a file that agrees, the reported total counts the bytes whose last accepted covering voucher
-- in it is a free. n is the number of records. Assumes nothing.
use Prim.Native.Nat.{ℕ, ◌≤◌, ◌<◌}
use mathlib.Core.Bool.{Bool, false}
use mathlib.Core.List.{List, [], ◌∷◌, map}
use mathlib.Core.Path.{◌≡◌, refl, sym, ap, ◌∙◌, subst}
use borrow.Author.Tests.{lt-ltb}
use Rattle.std.specs.Prelude.{Ok, Err}
use Rattle.linked_lists.specs.Links.{none}
use Rattle.rules.specs.Rules.{top, Book, empty, total, free_at, Call, Voucher, voucher, step, last_covering, said, count}
use Rattle.rules.specs.Sound.{Sound}
use Rattle.rules_laws.proofs.Kept.{empty-sound}
use Rattle.rules_laws.proofs.Steps.{step-sound}
use Rattle.rules_laws.proofs.Outcomes.{outcome}
use Rattle.rules_engine.specs.Engine.{rules, after, vouchers}
use Rattle.rules_engine.specs.Demand.{Demand}
use Rattle.rules_engine.proofs.Obeys.{Obeys}
use Rattle.rules_engine.proofs.Demand as engine
use Rattle.calls.specs.Calls.{Answer, call_of, address_of, answer_of, signed_of, voucher_from}
use Rattle.calls.specs.declared.MemoryError.TheVariants.{NoEntry, InvalidEntry, NoMemory, InvalidRequest}
use Rattle.calls.specs.declared.Request.{Request}
use Rattle.calls.proofs.Below.{step-below}
use Rattle.calls.proofs.Numbers.{signed-voucher, numbered}
use Rattle.bytes_be.specs.Numbers.{Bytes}
use Rattle.journal_blocks.specs.Bits.{bits_of, signed_from}
use Rattle.journal_blocks.specs.Journal.{entry, Contents}
use Rattle.journal_blocks.proofs.Rounds.{read-written}
use Rattle.journal_audit.specs.Audit.{answer_bits_lem, replayed, audit_of}
use Rattle.journal_audit.specs.Vouchers.{voucher_in, vouchers_in, recorded, left_by}
use Rattle.journal_audit.specs.declared.Verdict.TheVariants.{Agrees}
use Rattle.journal_audit.proofs.Exact.{answered-below, Agreeing, agrees-only}

-- the bits of an answer are those of its signed number alone
signed_back : (k : Answer) → address_of k < top → signed_from (bits_of (signed_of k)) ≡ signed_of k
signed_back (Ok a) h = rw (lt-ltb a.0 top h)
signed_back (Err NoEntry) h = refl
signed_back (Err InvalidEntry) h = refl
signed_back (Err NoMemory) h = refl
signed_back (Err InvalidRequest) h = refl

module _ (n : ℕ) where
  -- the voucher of a call that was made by the rules
  voucher-back : (b : Book) → Sound n b → (q : Request) → voucher_in (entry q (answer_bits_lem (replayed n b q))) ≡ voucher (call_of q) (replayed n b q)
  voucher-back b s q =
      let w = replayed n b q in
      let k = answer_of w.number w.address in
      ap (voucher_from (call_of q)) (signed_back k (answered-below w.number w.address (step-below n b (call_of q) s)))
      ∙ signed-voucher (call_of q) k ∙ numbered n b (call_of q) w (outcome n b (call_of q) s)

  vouchers-back : (b : Book) → Sound n b → (qs : List Request) → map voucher_in (recorded n b qs) ≡ vouchers (rules n) b (map call_of qs)
  unfolding recorded vouchers
  vouchers-back b s [] = refl
  vouchers-back b s (q ∷ qs) =
      let first = voucher-back b s q in
      let others = vouchers-back (replayed n b q).book (step-sound n b (call_of q) s) qs in
      (λ i. first i ∷ others i)

  left_back : (b : Book) (qs : List Request) → left_by n b qs ≡ after (rules n) b (map call_of qs)
  unfolding left_by after
  left_back b [] = refl
  left_back b (q ∷ qs) = left_back (replayed n b q).book qs

  -- the rules are an engine that obeys the rules
  obeys : Obeys n (rules n)
  obeys = record {
    Of = λ b s. s ≡ b;
    begins = refl;
    answers = λ b s c h o. ap (λ (x : Book). voucher c (step n c x)) o;
    leaves = λ b s c h o. ap (λ (x : Book). (step n c x).book) o;
    shows = λ b s h o. o;
    counts = λ b s h o. ap total o;
    sound = λ b s h o. subst (Sound n) (sym o) h;
  }

  demand : Demand (rules n)
  demand = engine.demand obeys

  -- a byte is free exactly if its last accepted covering voucher is a free, and these are counted
  module _ (qs : List Request) where
    abbrev calls : List Call
    calls = map call_of qs

    counted : total (left_by n empty qs) ≡ count top (λ x. said false (last_covering x (map voucher_in (recorded n empty qs))))
    counted =
        let d = demand in
        let free : ◌≡◌ {A = ℕ → Bool} (free_at (after (rules n) empty calls)) (λ x. said false (last_covering x (vouchers (rules n) empty calls))) = (λ i x. d.free_bytes calls x i) in
        ap total (left_back empty qs) ∙ d.total-counts calls ∙ ap (count top) free
        ∙ ap (λ (vs : List Voucher). count top (λ x. said false (last_covering x vs))) (sym (vouchers-back empty (empty-sound n) qs))

  module _ (small : n ≤ none) (l : List ℕ) (bytes : Bytes l) (t : ℕ) (e : audit_of n l ≡ Agrees t) where
    read : Agreeing n l t
    read = agrees-only n small l bytes t e

    vouchers-read : vouchers_in l ≡ map voucher_in (recorded n empty read.calls)
    vouchers-read =
        ap vouchers_in read.bytes ∙ ap (λ (c : Contents). map voucher_in c.entries) (read-written (recorded n empty read.calls) read.fit)

    -- The bookkeeper's sentence.
    pub journal-closes : t ≡ count top (λ x. said false (last_covering x (vouchers_in l)))
    journal-closes =
        read.final ∙ counted read.calls ∙ ap (λ (vs : List Voucher). count top (λ x. said false (last_covering x vs))) (sym vouchers-read)
