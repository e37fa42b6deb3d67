-- The loop over a list: what holds when k of its calls are served. n is the number of records. Assumes nothing.
use Prim.Native.Nat.{ℕ, ◌+◌, ◌<◌, ◌≤◌}
use mathlib.Core.Bool.{Bool, true, false, ◌&&◌}
use mathlib.Core.List.{List}
use mathlib.Core.Path.{◌≡◌, refl, sym, ap, ◌∙◌, subst}
use lib.Dec.{lit<}
use lib.IntN.{ℤ, pos}
use lib.ListN.{length, set, take}
use lib.Seq.{take-length}
use native.Mathlib.Omega.{arith}
use borrow.Author.Tests.{leb-true}
use Rattle.std.specs.Prelude.{Some, None}
use Rattle.linked_lists.specs.Links.{none}
use Rattle.linked_lists.proofs.Laws.{true≢false}
use Rattle.rules.specs.Rules.{top, Book}
use Rattle.rules.specs.Sound.{Sound}
use Rattle.pool_state.specs.State.{Holds}
use Rattle.pool_state.specs.Sound.{book_of}
use Rattle.pool_state.specs.declared.MemoryAllocator.{MemoryAllocator}
use Rattle.pool_state.proofs.Book.{sound-holds}
use Rattle.rules_lowest.specs.Lowest.{noted}
use Rattle.account_state.specs.Account.{account, SoundAccount}
use Rattle.account_state.specs.declared.Account.{Account}
use Rattle.calls.specs.Calls.{Answer, call_of, address_of, number_of, signed_of}
use Rattle.calls.specs.Answers.{Answers}
use Rattle.account_state.specs.declared.Entered.{Entered}
use Rattle.calls.proofs.Below.{step-below}
use Rattle.account_calls.proofs.Judged.{sound-judged}
use Rattle.pool_listing.proofs.Writing.{partly, partly-on, partly-all}
use Rattle.batch.specs.InWords.{asked, asked_at_lem, whole, rule_of, Asked}
use Rattle.batch.specs.Lists.{served_of, left_by, answers_of, fitted, Served}
use Rattle.batch.proofs.Runs.{answers-length, left-next, answer_at}
use Rattle.batch.proofs.Histories.{served-sound}

pub and_left : (p q : Bool) → (p && q) ≡ true → p ≡ true
and_left true q e = refl
and_left false q e = e

pub and_right : (p q : Bool) → (p && q) ≡ true → q ≡ true
and_right true q e = e
and_right false q e = true≢false (sym e)

-- what is answered is an address below 2^63
pub rule-below : (n : ℕ) (b : Book) (q : Asked) → Sound n b → (rule_of n q b).address < top
rule-below n b (Some q) h = step-below n b (call_of q) h
rule-below n b None h = lit< tt

-- of a list that fits, each call has a place
pub going-room : (l : List ℕ) (m : ℕ) → fitted l m ≡ true → length (asked l) ≤ m
going-room l m e = leb-true _ _ (and_right (whole l) _ e)

-- k calls of the list are served: the account is what they leave, and their answers stand in their places
pub record Going (n : ℕ) (a₀ : Account) (l : List ℕ) (old : List ℤ) (k : ℕ) (a : Account) (answers : List ℤ) : Type 0 where
  pub few : k ≤ length (asked l)
  pub sound : SoundAccount n a
  pub state : a ≡ left_by n a₀ (take k (asked l))
  pub written : answers ≡ partly (answers_of n a₀ (asked l)) k old

module _ (n : ℕ) (small : n ≤ none) (a₀ : Account) (l : List ℕ) (old : List ℤ) where
  pub going_start : SoundAccount n a₀ → Going n a₀ l old 0 a₀ old
  unfolding left_by
  going_start h = record { few = omega arith; sound = h; state = refl; written = refl }

  module _ (k : ℕ) (a : Account) (answers : List ℤ) (g : Going n a₀ l old k a answers) where
    pub going-holds : Holds n (book_of n a.ranges) a.ranges
    going-holds = sound-holds n a.ranges g.sound.ranges

    -- call k, on the ranges
    module _ (q : Asked) (e : q ≡ asked_at_lem l k) (x : Answer) (s' : MemoryAllocator) (f : (b : Book) → Holds n b a.ranges → Answers n (rule_of n q b) x s') where
      answers-here : Answers n (rule_of n q (book_of n a.ranges)) x s'
      answers-here = f (book_of n a.ranges) going-holds

      pub going-below : address_of x < top
      going-below = rw answers-here.address (rule-below n (book_of n a.ranges) q g.sound.ranges.book)

      -- and the figure noted
      module _ (low : ℕ) (is-low : low ≡ noted (number_of x) s'.free_size a.lowest) where
        judged-here : record { answer = x; state = account s' low } ≡ served_of n a q
        judged-here = sound-judged n a (rule_of n q) small g.sound x s' low f is-low

        served-here : record { answer = x; state = account s' low } ≡ served_of n (left_by n a₀ (take k (asked l))) (asked_at_lem l k)
        served-here = judged-here ∙ ap (λ (t : Account). served_of n t q) g.state ∙ ap (served_of n (left_by n a₀ (take k (asked l)))) e

        pub going_on : (i : ℤ) → i ≡ signed_of x → k < length (asked l) → length (asked l) ≤ length old → Going n a₀ l old (k + 1) (account s' low) (set answers k i)
        going_on i is more room =
            record {
              few = omega arith;
              sound = subst (SoundAccount n) (sym (ap (λ (r : Entered). r.state) judged-here)) (served-sound n small a g.sound q);
              state = ap (λ (r : Entered). r.state) served-here ∙ sym (left-next n a₀ (asked l) k more);
              written = partly-on (answers_of n a₀ (asked l)) old answers k g.written (pos 0) i
                  (is ∙ ap (λ (r : Entered). signed_of r.answer) served-here ∙ sym (answer_at n a₀ (asked l) k more))
                  (rw (answers-length n a₀ (asked l)) more) (omega arith);
            }

    pub going_end : k ≡ length (asked l) → Served n a₀ l old a answers
    going_end all =
        record {
          state = g.state ∙ ap (λ (m : ℕ). left_by n a₀ (take m (asked l))) all ∙ ap (left_by n a₀) (take-length (asked l));
          answers = partly-all (answers_of n a₀ (asked l)) old answers k g.written (all ∙ sym (answers-length n a₀ (asked l)));
        }
