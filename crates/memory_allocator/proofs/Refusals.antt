-- What a refusal leaves. Assumes nothing.
use Prim.Native.Nat.{ℕ, ◌≤◌}
use mathlib.Core.Bool.{Bool, true, false}
use mathlib.Core.Logic.{◌≢◌}
use mathlib.Core.Path.{◌≡◌, refl, ap, ◌∙◌}
use Rattle.linked_lists.specs.Links.{none}
use Rattle.rules.specs.Rules.{Book, Answer, Call, step}
use Rattle.rules_laws.proofs.Outcomes.{Outcome, refusal, took, gave, outcome}
use Rattle.pool_state.specs.State.{state_of}
use Rattle.pool_state.specs.Sound.{book_of}
use Rattle.pool_state.specs.declared.MemoryAllocator.{MemoryAllocator}
use Rattle.check_state.specs.IsSound.{is_sound_lem}
use Rattle.check_meaning.specs.Paragraph.{Sized}
use Rattle.check_meaning.proofs.Exact.{passes-sound}
use Rattle.calls.specs.Calls.{number_of}
use Rattle.core_serve.specs.Made.{made, judged}

refused-book : (n : ℕ) (b : Book) (c : Call) (w : Answer) → Outcome n b c w → w.number ≢ 0 → w.book ≡ b
refused-book n b c _ (refusal k h m) d = refl
refused-book n b c _ (took x r f h) d = absurd (d refl)
refused-book n b c _ (gave f h) d = absurd (d refl)

module _ (n : ℕ) (small : n ≤ none) (s : MemoryAllocator) (c : Call) where
  -- A refused call hands back the identical state, whatever the state and the numbers.
  pub refused-same : Sized n s → number_of (made n s c).answer ≢ 0 → (made n s c).state ≡ s
  unfolding judged
  refused-same z d = go (is_sound_lem n s) refl d
    where
      w : Answer
      w = step n c (book_of n s)

      go : (t : Bool) → is_sound_lem n s ≡ t → number_of (judged n (step n c) s).answer ≢ 0 → (judged n (step n c) s).state ≡ s
      go false e d = rw e
      go true e d =
          let p = passes-sound n small s z e in
          let k : (step n c (book_of n s)).number ≢ 0 = λ q. d (rw (e, q) refl) in
          rw e (ap (state_of n) (refused-book n (book_of n s) c _ (outcome n (book_of n s) c p.book) k) ∙ p.state)
