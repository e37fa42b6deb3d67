-- A call on the state that holds a sound book is the rule's on that book. Assumes nothing.
use Prim.Native.Nat.{ℕ, ◌≤◌}
use mathlib.Core.Bool.{true}
use mathlib.Core.Path.{◌≡◌, ap, ◌∙◌}
use Rattle.linked_lists.specs.Links.{none}
use Rattle.rules.specs.Rules.{Book, Answer, Call, step, voucher}
use Rattle.rules.specs.Sound.{Sound}
use Rattle.rules_laws.proofs.Outcomes.{outcome}
use Rattle.rules_laws.proofs.Steps.{step-sound}
use Rattle.pool_state.specs.State.{state_of}
use Rattle.pool_state.specs.Sound.{book_of, SoundState}
use Rattle.pool_state.specs.declared.MemoryAllocator.{MemoryAllocator}
use Rattle.pool_state.proofs.States.{state-holds}
use Rattle.pool_state.proofs.Book.{book-back, holds-sound}
use Rattle.check_state.specs.IsSound.{is_sound_lem}
use Rattle.check_meaning.proofs.Exact.{sound-passes}
use Rattle.calls.specs.Calls.{voucher_of}
use Rattle.calls.specs.declared.Outcome.{Outcome}
use Rattle.calls.proofs.Numbers.{numbered}
use Rattle.core_serve.specs.Made.{held, judged, made}

module _ (n : ℕ) (small : n ≤ none) where
  pub sound-held : (b : Book) → Sound n b → SoundState n (state_of n b)
  sound-held b s = holds-sound n small b (state_of n b) (state-holds n b s)

  stands : (b : Book) → Sound n b → is_sound_lem n (state_of n b) ≡ true
  stands b s = sound-passes n small (state_of n b) (sound-held b s)

  judged-held : (rule : Book → Answer) (b : Book) → Sound n b → judged n rule (state_of n b) ≡ held n (rule b)
  unfolding judged
  judged-held rule b s = rw (stands b s) (ap (λ (x : Book). held n (rule x)) (book-back n small b s))

  pub made_held : (b : Book) (c : Call) → Sound n b → made n (state_of n b) c ≡ held n (step n c b)
  made_held b c s = judged-held (step n c) b s

  pub made-voucher : (b : Book) (c : Call) → Sound n b → voucher_of c (made n (state_of n b) c).answer ≡ voucher c (step n c b)
  made-voucher b c s = ap (λ (r : Outcome). voucher_of c r.answer) (made_held b c s) ∙ numbered n b c (step n c b) (outcome n b c s)

  -- every call leaves a sound state sound
  pub made-sound : (s : MemoryAllocator) → SoundState n s → (c : Call) → SoundState n (made n s c).state
  unfolding judged
  made-sound s h c = rw (sound-passes n small s h) (sound-held _ (step-sound n (book_of n s) c h.book))
