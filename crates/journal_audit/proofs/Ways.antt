-- What an audit makes of a block, one way through after the other. n is the number of records. Assumes nothing.
use Prim.Native.Nat.{ℕ, ◌+◌, ◌-◌, ◌≤◌}
use mathlib.Core.Bool.{Bool, true, false, not}
use mathlib.Core.List.{List, [], ◌∷◌}
use mathlib.Core.Path.{◌≡◌, sym, ap, ◌∙◌, subst}
use lib.ListN.{length, take, drop, get_or, length-drop}
use lib.Seq.{take_all}
use native.Mathlib.Omega.{arith}
use native.Mathlib.Numerals.{add-one}
use borrow.Author.Tests.{eqb-true, eq-eqb, ne_eqb, not-true, not-false}
use Rattle.linked_lists.specs.Links.{none}
use Rattle.rules.specs.Rules.{Book, empty, step}
use Rattle.rules_laws.proofs.Kept.{empty-sound}
use Rattle.pool_state.specs.State.{state_of, Holds}
use Rattle.pool_state.specs.Sound.{book_of, SoundState}
use Rattle.pool_state.specs.declared.MemoryAllocator.{MemoryAllocator}
use Rattle.pool_state.proofs.States.{holds-state}
use Rattle.pool_state.proofs.Book.{sound-holds}
use Rattle.calls.specs.Calls.{Answer, call_of, signed_of}
use Rattle.calls.specs.Answers.{Answers}
use Rattle.calls.specs.declared.Outcome.{Outcome}
use Rattle.core_serve.specs.Made.{held}
use Rattle.core_serve.proofs.Judged.{answers-held}
use Rattle.memory_allocator.proofs.Steps.{sound-held}
use Rattle.journal_blocks.specs.Bits.{bits_of}
use Rattle.journal_blocks.specs.Journal.{version, versioned}
use Rattle.journal_blocks.specs.declared.Entry.{Entry}
use Rattle.journal_blocks.specs.declared.Block.{Block}
use Rattle.journal_blocks.specs.declared.Block.TheVariants as block
use Rattle.journal_audit.specs.Audit.{Audited, answer_bits_lem, replayed, stands, stands_at_lem, judged_by, audited_on, begun, verdict_of_lem, audit_of}
use Rattle.journal_audit.specs.declared.Stop.{Stop}
use Rattle.journal_audit.specs.declared.Stop.TheVariants as stop
use Rattle.journal_audit.specs.declared.Verdict.{Verdict}
use Rattle.journal_audit.specs.declared.Verdict.TheVariants.{NoVersion}

-- ---- blocks

module _ (n : ℕ) (small : n ≤ none) where
  -- a sound state is that of its book
  pub state-is : (s : MemoryAllocator) → SoundState n s → s ≡ state_of n (book_of n s)
  state-is s h = holds-state n (book_of n s) s (sound-holds n s h)

  -- an audit that stands where it stood
  pub still : (s : MemoryAllocator) (i at : ℕ) (x : Stop) → SoundState n s → record { auditing = record { state = s; index = i }; used = at; stop = x } ≡ stands n at i (book_of n s) x
  still s i at x h = let p = state-is s h in (λ z. record { auditing = record { state = p z; index = i }; used = at; stop = x })

  -- a call that was made in place: k is its answer, and s' the state that it has left
  module _ (s : MemoryAllocator) (i at : ℕ) (e : Entry) (next : ℕ) (h : SoundState n s) (k : Answer) (s' : MemoryAllocator)
      (served : (b : Book) → Holds n b s → Answers n (step n (call_of e.request) b) k s') (bits : ℕ) (told : bits ≡ bits_of (signed_of k)) where
    abbrev b : Book
    b = book_of n s

    outcome : record { answer = k; state = s' } ≡ held n (replayed n b e.request)
    outcome = answers-held n (replayed n b e.request) (record { answer = k; state = s' }) (served b (sound-holds n s h))

    left : s' ≡ state_of n (replayed n b e.request).book
    left = ap (λ (x : Outcome). x.state) outcome

    bits_are : bits ≡ answer_bits_lem (replayed n b e.request)
    bits_are = told ∙ ap (λ (x : Outcome). bits_of (signed_of x.answer)) outcome

    pub call-differs : (bits ≡ e.answer → ⊥) → record { auditing = record { state = s'; index = i }; used = at; stop = stop.Differs } ≡ judged_by n (stands_at_lem n) at i b (block.Call e next)
    call-differs d =
        rw (ne_eqb (answer_bits_lem (replayed n b e.request)) e.answer (λ p. d (bits_are ∙ p))) (λ j. record { auditing = record { state = left j; index = i }; used = at; stop = stop.Differs })

    pub call-agrees : bits ≡ e.answer → record { auditing = record { state = s'; index = i + 1 }; used = next; stop = stop.More } ≡ judged_by n (stands_at_lem n) at i b (block.Call e next)
    call-agrees p =
        let m = add-one i in
        rw (eq-eqb (answer_bits_lem (replayed n b e.request)) e.answer (sym bits_are ∙ p)) (λ j. record { auditing = record { state = left j; index = m j }; used = next; stop = stop.More })

module _ (n : ℕ) (s : MemoryAllocator) (i at : ℕ) where
  -- the block that was read is a call
  pub block-judged : (w v : Block) → w ≡ v → (u : Block) → w ≡ u → (r : Audited) → r ≡ judged_by n (stands_at_lem n) at i (book_of n s) u → r ≡ judged_by n (stands_at_lem n) at i (book_of n s) v
  block-judged w v e u f r g = g ∙ ap (judged_by n (stands_at_lem n) at i (book_of n s)) (sym f ∙ e)

-- or none
pub fault-judged : (n : ℕ) → n ≤ none → (s : MemoryAllocator) (i at : ℕ) → SoundState n s → (w v : Block) → w ≡ v → (u : Block) → w ≡ u → (x : Stop)
    → stands n at i (book_of n s) x ≡ judged_by n (stands_at_lem n) at i (book_of n s) u
    → record { auditing = record { state = s; index = i }; used = at; stop = x } ≡ judged_by n (stands_at_lem n) at i (book_of n s) v
fault-judged n small s i at h w v e u f x same = still n small s i at x h ∙ same ∙ ap (judged_by n (stands_at_lem n) at i (book_of n s)) (sym f ∙ e)

-- ---- whole journals

-- the blocks of a journal, from empty: the fields have led to d
pub replayed-all : (n : ℕ) (p : List ℕ) (s : MemoryAllocator) → s ≡ state_of n empty → (d : Audited) → d ≡ audited_on n (record { state = s; index = 0 }) p
    → (r : Verdict) → r ≡ verdict_of_lem (length p) d → r ≡ verdict_of_lem (length p) (audited_on n (begun n) p)
replayed-all n p s e d f r g = g ∙ ap (verdict_of_lem (length p)) (f ∙ (λ i. audited_on n (record { state = e i; index = 0 }) p))

-- the fields of an audit that begins
pub begun-sound : (n : ℕ) → n ≤ none → (s : MemoryAllocator) → s ≡ state_of n empty → SoundState n s
begun-sound n small s e = subst (SoundState n) (sym e) (sound-held n small empty (empty-sound n))

module _ (n : ℕ) (l : List ℕ) (t : Bool) (is : t ≡ versioned l) where
  pub no-version : not t ≡ true → NoVersion ≡ audit_of n l
  no-version h = rw (sym is ∙ not-true t h)

  is-versioned : not t ≡ false → versioned l ≡ true
  is-versioned h = sym is ∙ not-false t h

  pub some_byte : not t ≡ false → 1 ≤ length l
  some_byte h = go l (eqb-true _ _ (is-versioned h))
    where
      go : (m : List ℕ) → get_or m 0 0 ≡ version → 1 ≤ length m
      go [] e = absurd (let v : ⊥ = omega arith in v)
      go (x ∷ m) e = omega arith

  pub reported : not t ≡ false → (p : List ℕ) → p ≡ take (length l - 1) (drop 1 l) → (r : Verdict) → r ≡ verdict_of_lem (length p) (audited_on n (begun n) p) → r ≡ audit_of n l
  reported h p e r g =
      let size = length-drop 1 l in
      let all : p ≡ drop 1 l = e ∙ take_all (length l - 1) (drop 1 l) (omega arith) in
      g ∙ ap (λ (m : List ℕ). verdict_of_lem (length m) (audited_on n (begun n) m)) all ∙ rw (is-versioned h)
