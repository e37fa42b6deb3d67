-- What a refusal leaves, what a call does to the ranges, and that the contracts allow one result. Assumes nothing.
use Prim.Native.Nat.{ℕ, ◌≤◌}
use mathlib.Core.Bool.{Bool, true, false}
use mathlib.Core.Logic.{◌≢◌}
use mathlib.Core.Path.{◌≡◌, refl, sym, ap, ◌∙◌}
use Rattle.linked_lists.specs.Links.{none}
use Rattle.rules.specs.Rules.{Book, Answer, Call, total, step}
use Rattle.pool_state.specs.State.{state_of}
use Rattle.pool_state.specs.Sound.{book_of}
use Rattle.check_meaning.specs.Paragraph.{Sized}
use Rattle.check_state.specs.IsSound as ranges
use Rattle.calls.specs.Calls.{number_of}
use Rattle.core_serve.specs.Made as ranges-made
use Rattle.memory_allocator.proofs.Refusals as ranges-refusals
use Rattle.rules_lowest.proofs.Least.{noted-refused}
use Rattle.account_state.specs.Account.{account, is_sound_lem}
use Rattle.account_state.specs.declared.Account.{Account}
use Rattle.account_state.specs.declared.Entered.{Entered}
use Rattle.account_state.proofs.Exact.{passes-sound, both}
use Rattle.account_calls.specs.Made.{made, judged}
use Rattle.account_calls.proofs.Judged.{passed-judged}

module _ (n : ℕ) (a : Account) (rule : Book → Answer) (e : is_sound_lem n a ≡ true) where
  -- of a sound account, a call answers what it answers on the ranges, and leaves them so
  pub ranges-answer : (judged n rule a).answer ≡ (ranges-made.judged n rule a.ranges).answer
  unfolding judged ranges-made.judged
  ranges-answer = let p = both (ranges.is_sound_lem n a.ranges) _ e in rw (p.0, p.1)

  pub ranges-left : (judged n rule a).state.ranges ≡ (ranges-made.judged n rule a.ranges).state
  unfolding judged ranges-made.judged
  ranges-left = let p = both (ranges.is_sound_lem n a.ranges) _ e in rw (p.0, p.1)

module _ (n : ℕ) (small : n ≤ none) (a : Account) (c : Call) where
  -- A refused call hands back the identical account, whatever the account and the numbers.
  pub refused-same : Sized n a.ranges → number_of (made n a c).answer ≢ 0 → (made n a c).state ≡ a
  unfolding judged
  refused-same z d = go (is_sound_lem n a) refl d
    where
      go : (t : Bool) → is_sound_lem n a ≡ t → number_of (judged n (step n c) a).answer ≢ 0 → (judged n (step n c) a).state ≡ a
      go false e d = rw e
      go true e d =
          let k : (step n c (book_of n a.ranges)).number ≢ 0 = λ q. d (rw (e, q) refl) in
          let w = step n c (book_of n a.ranges) in
          let same = ranges-left n a (step n c) e ∙ ranges-refusals.refused-same n small a.ranges c z (λ q. d (ap number_of (ranges-answer n a (step n c) e) ∙ q)) in
          let low = ap (λ (r : Entered). r.state.lowest) (passed-judged n a (step n c) e) ∙ noted-refused w.number (total w.book) a.lowest k in
          (λ i. account (same i) (low i))

  -- Any two results that the contract of a call allows coincide: number, address and the whole next account.
  pub determined : (r r' : Entered) → r ≡ made n a c → r' ≡ made n a c → r ≡ r'
  determined r r' e e' = e ∙ sym e'
