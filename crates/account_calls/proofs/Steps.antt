-- A call on the account that holds a sound book is the rule's on that book, and the figure is noted. Assumes nothing.
use Prim.Native.Nat.{ℕ, ◌≤◌}
use mathlib.Core.Bool.{true}
use mathlib.Core.Path.{◌≡◌, refl, ap, ◌∙◌}
use Rattle.linked_lists.specs.Links.{none}
use Rattle.rules.specs.Rules.{Book, Answer, Call, step, voucher, total}
use Rattle.rules.specs.Sound.{Sound}
use Rattle.rules_lowest.specs.Lowest.{noted, low_sound}
use Rattle.rules_lowest.proofs.Least.{noted-sound}
use Rattle.rules_laws.proofs.Steps.{step-sound}
use Rattle.rules_laws.proofs.Outcomes.{outcome}
use Rattle.pool_state.specs.State.{state_of}
use Rattle.pool_state.proofs.Book.{book-back}
use Rattle.calls.specs.Calls.{voucher_of}
use Rattle.calls.proofs.Numbers.{numbered}
use Rattle.memory_allocator.proofs.Steps as ranges
use Rattle.account_state.specs.Account.{account, SoundAccount}
use Rattle.account_state.specs.declared.Entered.{Entered}
use Rattle.account_state.proofs.Exact.{sound-passes}
use Rattle.account_calls.specs.Made.{held, made}
use Rattle.account_calls.proofs.Judged.{passed-judged}

module _ (n : ℕ) (small : n ≤ none) where
  pub sound-held : (b : Book) (low : ℕ) → Sound n b → low_sound (total b) low ≡ true → SoundAccount n (account (state_of n b) low)
  unfolding state_of
  sound-held b low s h = record { ranges = ranges.sound-held n small b s; low = h }

  module _ (b : Book) (low : ℕ) (c : Call) (s : Sound n b) (h : low_sound (total b) low ≡ true) where
    pub made_held : made n (account (state_of n b) low) c ≡ held n low (step n c b)
    made_held =
        passed-judged n (account (state_of n b) low) (step n c) (sound-passes n small (account (state_of n b) low) (sound-held b low s h))
        ∙ ap (λ (x : Book). held n low (step n c x)) (book-back n small b s)

    pub made-voucher : voucher_of c (made n (account (state_of n b) low) c).answer ≡ voucher c (step n c b)
    made-voucher = ap (λ (r : Entered). voucher_of c r.answer) made_held ∙ numbered n b c (step n c b) (outcome n b c s)

    -- the account that it leaves is sound
    pub held-sound : SoundAccount n (held n low (step n c b)).state
    held-sound = sound-held (step n c b).book (noted (step n c b).number (total (step n c b).book) low) (step-sound n b c s) (noted-sound n b c s low h)
