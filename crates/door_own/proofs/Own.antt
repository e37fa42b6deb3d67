-- From what the calls in place leave to what is promised of lent fields. n is the number of records. Assumes nothing.
use Prim.Native.Nat.{ℕ, ◌<◌, ◌≤◌}
use mathlib.Core.Bool.{Bool, true, false, ◌&&◌}
use mathlib.Core.Path.{◌≡◌, refl, sym, ap, subst, ◌∙◌}
use lib.IntN.{ℤ}
use Rattle.std.specs.Prelude.{Err}
use Rattle.linked_lists.specs.Links.{none}
use Rattle.rules.specs.Rules.{top, Book}
use Rattle.rules.specs.Rules as rules
use Rattle.rules_lowest.specs.Lowest.{noted}
use Rattle.pool_state.specs.State.{Holds}
use Rattle.pool_state.specs.Sound.{book_of}
use Rattle.pool_state.specs.declared.MemoryAllocator.{MemoryAllocator}
use Rattle.pool_state.proofs.Book.{sound-holds}
use Rattle.check_meaning.specs.Paragraph.{Sized}
use Rattle.account_state.specs.Account.{account, SoundAccount, is_sound_lem}
use Rattle.account_state.specs.declared.Account.{Account}
use Rattle.account_state.specs.declared.Entered.{Entered}
use Rattle.account_state.proofs.Exact.{sound-sized, passes-sound}
use Rattle.calls.specs.Calls.{Answer, address_of, number_of, signed_of}
use Rattle.calls.specs.Answers.{Answers}
use Rattle.calls.specs.declared.MemoryError.TheVariants.{InvalidEntry}
use Rattle.account_calls.specs.Made.{judged}
use Rattle.account_calls.proofs.Judged.{sound-judged, unsound-judged}
use Rattle.batch.specs.InWords.{rule_of, Asked}
use Rattle.batch.proofs.Going.{rule-below}
use Rattle.check_records.proofs.Tests.{and-true}
use Rattle.door_fields.specs.Fields.{is_sized_lem, sound_here}
use Rattle.door_fields.proofs.Sized.{sized-passes, passes-sized}
use Rattle.door_own.specs.Own.{judged_here, Judged}

-- ---- the ways through a call

module _ (n : ℕ) (small : n ≤ none) (a : Account) (rule : Book → rules.Answer) where
  -- of arrays with the places that their types say, the call is the one on an account by value
  pub same-judged : Sized n a.ranges → judged_here n rule a ≡ judged n rule a
  unfolding judged_here
  same-judged z = rw (sized-passes n a.ranges z)

  pub not-judged : is_sized_lem n a.ranges ≡ false → judged_here n rule a ≡ record { answer = Err InvalidEntry; state = a }
  unfolding judged_here
  not-judged e = rw e

  judged-by : (w : Entered) → w ≡ judged_here n rule a → (r : ℤ) → r ≡ signed_of w.answer → Judged n rule r a w.state
  judged-by w e r is = record { number = is ∙ ap (λ (x : Entered). signed_of x.answer) e; state = ap (λ (x : Entered). x.state) e }

  pub unsound-here : sound_here n a ≡ false → Judged n rule (signed_of (Err InvalidEntry)) a a
  unsound-here h = judged-by (record { answer = Err InvalidEntry; state = a }) (go (is_sized_lem n a.ranges) refl) _ refl
    where
      go : (t : Bool) → is_sized_lem n a.ranges ≡ t → record { answer = Err InvalidEntry; state = a } ≡ judged_here n rule a
      go true e = unsound-judged n a rule (sym (ap (λ (t : Bool). t && is_sound_lem n a) e) ∙ h) ∙ sym (same-judged (passes-sized n a.ranges e))
      go false e = sym (not-judged e)

  pub sound-here : sound_here n a ≡ true → SoundAccount n a
  sound-here h = let w = and-true _ _ h in passes-sound n small a (passes-sized n a.ranges w.0) w.1

  -- a call in place on the ranges of a sound account, with the figure noted
  module _ (good : SoundAccount n a) (k : Answer) (s : MemoryAllocator) (f : (b : Book) → Holds n b a.ranges → Answers n (rule b) k s) where
    pub served-here : (low : ℕ) → low ≡ noted (number_of k) s.free_size a.lowest → (r : ℤ) → r ≡ signed_of k → Judged n rule r a (account s low)
    served-here low is-low r is =
        judged-by (record { answer = k; state = account s low }) (sound-judged n a rule small good k s low f is-low ∙ sym (same-judged (sound-sized n small a good))) r is

-- what is answered is an address below 2^63
pub below-here : (n : ℕ) (a : Account) (s : MemoryAllocator) (q : Asked) (k : Answer) → SoundAccount n a
    → ((b : Book) → Holds n b a.ranges → Answers n (rule_of n q b) k s) → address_of k < top
below-here n a s q k h f =
    let b = book_of n a.ranges in
    rw (f b (sound-holds n a.ranges h.ranges)).address (rule-below n b q h.ranges.book)

-- the same rule by another name
pub asked-as : (n : ℕ) (a a' : Account) (r : ℤ) (p q : Asked) → p ≡ q → Judged n (rule_of n p) r a a' → Judged n (rule_of n q) r a a'
asked-as n a a' r p q e j = subst (λ (x : Asked). Judged n (rule_of n x) r a a') e j
