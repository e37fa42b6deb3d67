-- Wherever a list is cut between two calls, the two parts give the same answers in the same places and the same end state; and a list of
-- one call is that call. n is the number of records.
-- Assumes nothing.
use Prim.Native.Nat.{ℕ, ◌+◌, ◌*◌, ◌-◌, ◌≤◌}
use mathlib.Core.Bool.{true}
use mathlib.Core.List.{List, [], ◌∷◌, ◌++◌, append_assoc, append-nil}
use mathlib.Core.Path.{◌≡◌, refl, sym, ap, ◌∙◌}
use lib.IntN.{ℤ}
use lib.ListN.{length, take, drop, length-append, length-drop, take-append-drop}
use lib.Seq.{length-take-le, drop-length, drop-drop}
use native.Mathlib.Omega.{arith}
use borrow.Author.Tests.{le-leb}
use Rattle.std.specs.Prelude.{Some}
use Rattle.linked_lists.specs.Links.{none}
use Rattle.account_state.specs.Account.{SoundAccount}
use Rattle.account_state.specs.declared.Account.{Account}
use Rattle.account_state.proofs.Exact.{sound-passes}
use Rattle.calls.specs.Calls.{call_of, signed_of}
use Rattle.calls.specs.declared.Request.{Request}
use Rattle.calls.specs.declared.Request.TheVariants.{Allocate, Reserve, Free}
use Rattle.account_calls.specs.Made.{made}
use Rattle.account_calls.specs.Engine.{accounts}
use Rattle.pool_listing.specs.Listing.{written}
use Rattle.batch.specs.InWords.{words_of_lem, asked, whole, Asked}
use Rattle.batch.specs.Lists.{left_by, answers_of, fitted, list_served, answered}
use Rattle.batch.specs.Histories.{Batch, account_door, front, rest, CutAt}
use Rattle.batch.proofs.InWords.{asked-append, whole_append, first-calls}
use Rattle.batch.proofs.Runs.{left-append, answers-append, answers-length}
use Rattle.batch.proofs.Going.{and_left, going-room}
use Rattle.batch.proofs.Histories.{left-sound}

-- a list that fits
abbrev pub Fits : Batch → Type 0
Fits b = fitted b.words (length b.places) ≡ true

-- the words of a request ask for it, and one place is enough
pub asked-one : (q : Request) → asked (words_of_lem q) ≡ Some q ∷ []
unfolding asked
asked-one (Free a z) = refl
asked-one (Allocate z o) = refl
asked-one (Reserve a z o) = refl

pub one-fits : (q : Request) (i : ℤ) → Fits (record { words = words_of_lem q; places = i ∷ [] })
unfolding asked whole
one-fits (Free a z) i = refl
one-fits (Allocate z o) i = refl
one-fits (Reserve a z o) i = refl

module _ (n : ℕ) (small : n ≤ none) where
  -- a list that fits, on a sound state
  module _ (s : Account) (h : SoundAccount n s) (b : Batch) (fits : Fits b) where
    left_is : (account_door n).next b s ≡ left_by n s (asked b.words)
    unfolding list_served
    left_is = rw (sound-passes n small s h, fits)

    answers-are : (account_door n).answers b s ≡ written (answers_of n s (asked b.words)) b.places
    unfolding answered
    answers-are = rw (sound-passes n small s h, fits)

    -- A list of one call answers and leaves what that call does.
    pub single-left : (q : Request) → asked b.words ≡ Some q ∷ [] → (account_door n).next b s ≡ (made n s (call_of q)).state
    unfolding left_by
    single-left q e = left_is ∙ ap (left_by n s) e

    pub single-answer : (q : Request) → asked b.words ≡ Some q ∷ [] → (account_door n).answers b s ≡ written (signed_of (made n s (call_of q)).answer ∷ []) b.places
    unfolding answers_of
    single-answer q e = answers-are ∙ ap (λ (qs : List Asked). written (answers_of n s qs) b.places) e

module _ (b : Batch) (fits : Fits b) (k : ℕ) (few : k ≤ length (asked b.words)) where
  asked-cut : asked b.words ≡ asked (front k b).words ++ asked (rest k b).words
  asked-cut = ap asked (sym (take-append-drop (k * 4) b.words)) ∙ asked-append (front k b).words (rest k b).words (first-calls b.words k few).all_whole

  room : length (asked b.words) ≤ length b.places
  room = going-room b.words (length b.places) fits

  asked-rest : length (asked b.words) ≡ k + length (asked (rest k b).words)
  asked-rest = ap length asked-cut ∙ length-append (asked (front k b).words) (asked (rest k b).words) ∙ ap (λ (m : ℕ). m + length (asked (rest k b).words)) (first-calls b.words k few).count

  pub front_fits : Fits (front k b)
  front_fits =
      let f = first-calls b.words k few in
      let c = f.count in
      let p = length-take-le k b.places (let r = room in omega arith) in
      rw f.all_whole (le-leb (length (asked (front k b).words)) (length (front k b).places) (omega arith))

  rest-whole : whole (rest k b).words ≡ true
  rest-whole =
      sym (whole_append (front k b).words (rest k b).words (first-calls b.words k few).all_whole)
      ∙ ap whole (take-append-drop (k * 4) b.words) ∙ and_left (whole b.words) _ fits

  pub rest-fits : Fits (rest k b)
  rest-fits =
      let p = length-drop k b.places in
      let q = asked-rest in
      let r = room in
      rw rest-whole (le-leb (length (asked (rest k b).words)) (length (rest k b).places) (omega arith))

  module _ (n : ℕ) (small : n ≤ none) (s : Account) (h : SoundAccount n s) where
    abbrev between : Account
    between = left_by n s (asked (front k b).words)

    between_is : (account_door n).next (front k b) s ≡ between
    between_is = left_is n small s h (front k b) front_fits

    between-sound : SoundAccount n between
    between-sound = left-sound n small s h (asked (front k b).words)

    -- what is written, part by part
    written-cut : (xs ys old : List ℤ) → length xs ≡ k → k ≤ length old → written (xs ++ ys) old ≡ written xs (take k old) ++ written ys (drop k old)
    written-cut xs ys old e g =
        let full : drop (length xs) (take k old) ≡ [] = ap (λ (m : ℕ). drop m (take k old)) (e ∙ sym (length-take-le k old g)) ∙ drop-length (take k old) in
        let past : drop (length (xs ++ ys)) old ≡ drop (length ys) (drop k old) =
        ap (λ (m : ℕ). drop m old) (length-append xs ys ∙ ap (λ (m : ℕ). m + length ys) e) ∙ sym (drop-drop (length ys) k old) in
        append_assoc xs ys (drop (length (xs ++ ys)) old) ∙ ap (λ (t : List ℤ). xs ++ (ys ++ t)) past
        ∙ sym (ap (λ (t : List ℤ). (xs ++ t) ++ written ys (drop k old)) full ∙ ap (λ (t : List ℤ). t ++ written ys (drop k old)) (append-nil xs))

    -- For every k, the first k calls, and then the rest on the state that they left, are the whole.
    pub cut : CutAt (accounts n) (account_door n) s b k
    cut = record {
      same-state =
          left_is n small s h b fits ∙ ap (left_by n s) asked-cut ∙ left-append n s (asked (front k b).words) (asked (rest k b).words)
          ∙ sym (ap ((account_door n).next (rest k b)) between_is ∙ left_is n small between between-sound (rest k b) rest-fits);
      same-answers =
          let first = answers-are n small s h (front k b) front_fits in
          let second = ap ((account_door n).answers (rest k b)) between_is ∙ answers-are n small between between-sound (rest k b) rest-fits in
          answers-are n small s h b fits
          ∙ ap (λ (qs : List Asked). written (answers_of n s qs) b.places) asked-cut
          ∙ ap (λ (is : List ℤ). written is b.places) (answers-append n s (asked (front k b).words) (asked (rest k b).words))
          ∙ written-cut (answers_of n s (asked (front k b).words)) (answers_of n between (asked (rest k b).words)) b.places
          (answers-length n s (asked (front k b).words) ∙ (first-calls b.words k few).count) (let r = room in omega arith)
          ∙ sym (λ i. first i ++ second i);
    }
