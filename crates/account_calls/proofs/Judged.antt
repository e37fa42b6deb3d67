-- From what the calls on ranges leave to what is promised of accounts. Assumes nothing.
use Prim.Native.Nat.{ℕ, ◌≤◌}
use mathlib.Core.Bool.{Bool, true, false, cond}
use mathlib.Core.Path.{◌≡◌, refl, sym, ap, ◌∙◌}
use Rattle.std.specs.Prelude.{Ok, Err}
use Rattle.linked_lists.specs.Links.{none}
use Rattle.rules.specs.Rules.{Book, Answer, total}
use lib.Dec.{eqb}
use Rattle.rules_lowest.specs.Lowest.{less, noted}
use Rattle.pool_state.specs.State.{Holds, state_of}
use Rattle.pool_state.specs.Sound.{book_of}
use Rattle.pool_state.specs.declared.MemoryAllocator.{MemoryAllocator}
use Rattle.pool_state.proofs.States.{holds-state}
use Rattle.pool_state.proofs.Book.{sound-holds}
use Rattle.calls.specs.Calls.{number_of, answer_of}
use Rattle.calls.specs.Answers.{Answers}
use Rattle.calls.specs.Calls as result
use Rattle.calls.specs.declared.MemoryError.TheVariants.{NoEntry, InvalidEntry, NoMemory, InvalidRequest}
use Rattle.calls.specs.declared.Outcome.{Outcome}
use Rattle.calls.proofs.Numbers.{answer-is}
use Rattle.account_state.specs.Account.{account, SoundAccount, is_sound_lem}
use Rattle.account_state.specs.declared.Account.{Account}
use Rattle.account_state.specs.declared.Entered.{Entered}
use Rattle.check_state.specs.IsSound as ranges
use Rattle.core_serve.specs.Made as ranges-made
use Rattle.account_state.proofs.Exact.{both, sound-passes}
use Rattle.account_calls.specs.Made.{held, judged}

-- what the calls in place answer and leave, with the figure noted
module _ (n : ℕ) (low : ℕ) (w : Answer) (k : result.Answer) (s : MemoryAllocator) (h : Answers n w k s) where
  pub answers-held : (low' : ℕ) → low' ≡ noted (number_of k) s.free_size low → record { answer = k; state = account s low' } ≡ held n low w
  answers-held low' is =
      let e = h.number in let f = h.address in
      let a = answer-is k ∙ (λ z. answer_of (e z) (f z)) in
      let t = holds-state n w.book s h.book in
      let m = is ∙ (λ z. noted (e z) (h.book.counts z) low) in
      (λ z. record { answer = a z; state = account (t z) (m z) })

-- an answer is an acceptance exactly where its number is 0
zero_same : (k x : ℕ) → eqb (number_of (answer_of k x)) 0 ≡ eqb k 0
zero_same k x = go (eqb k 0) (eqb k 1) (eqb k 2) (eqb k 3)
  where
    go : (p q r s : Bool) → eqb (number_of (cond {A = result.Answer} p (Ok (record { 0 = x })) (cond q (Err NoEntry) (cond r (Err InvalidEntry) (cond s (Err NoMemory) (Err InvalidRequest)))))) 0 ≡ p
    go true q r s = refl
    go false true r s = refl
    go false false true s = refl
    go false false false true = refl
    go false false false false = refl

module _ (n : ℕ) (a : Account) (rule : Book → Answer) where
  pub unsound-judged : is_sound_lem n a ≡ false → record { answer = Err InvalidEntry; state = a } ≡ judged n rule a
  unfolding judged
  unsound-judged e = sym (ap (λ (c : Bool). cond c (held n a.lowest (rule (book_of n a.ranges))) (record { answer = Err InvalidEntry; state = a })) e)

  pub passed-judged : is_sound_lem n a ≡ true → judged n rule a ≡ held n a.lowest (rule (book_of n a.ranges))
  unfolding judged
  passed-judged e = rw e

  -- a call in place on the ranges of a sound account
  pub sound-judged : n ≤ none → SoundAccount n a → (k : result.Answer) (s : MemoryAllocator) (low : ℕ) → ((b : Book) → Holds n b a.ranges → Answers n (rule b) k s)
      → low ≡ noted (number_of k) s.free_size a.lowest → record { answer = k; state = account s low } ≡ judged n rule a
  sound-judged small h k s low f is =
      answers-held n a.lowest (rule (book_of n a.ranges)) k s (f (book_of n a.ranges) (sound-holds n a.ranges h.ranges)) low is
      ∙ sym (passed-judged (sound-passes n small a h))

  -- the core's call on the ranges of a sound account
  pub served-judged : (r : Outcome) (low : ℕ) → is_sound_lem n a ≡ true → r ≡ ranges-made.judged n rule a.ranges
      → low ≡ noted (number_of r.answer) r.state.free_size a.lowest → record { answer = r.answer; state = account r.state low } ≡ judged n rule a
  unfolding ranges-made.judged state_of
  served-judged r low e is l =
      let w = rule (book_of n a.ranges) in
      let g : r ≡ ranges-made.held n w = rw (both (ranges.is_sound_lem n a.ranges) _ e).0 at is in
      let m = l ∙ ap (λ (x : Outcome). noted (number_of x.answer) x.state.free_size a.lowest) g ∙ ap (λ (d : Bool). cond d (less (total w.book) a.lowest) a.lowest) (zero_same w.number w.address) in
      (λ i. record { answer = (g i).answer; state = account (g i).state (m i) }) ∙ sym (passed-judged e)
