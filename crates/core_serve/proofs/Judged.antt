-- From what the calls in place leave to what the allocator promises. Assumes nothing.
use Prim.Native.Nat.{ℕ, ◌≤◌}
use mathlib.Core.Bool.{Bool, true, false, cond}
use mathlib.Core.Path.{◌≡◌, sym, ap, ◌∙◌}
use Rattle.std.specs.Prelude.{Err}
use Rattle.linked_lists.specs.Links.{none}
use Rattle.rules.specs.Rules.{Book, Answer}
use Rattle.pool_state.specs.State.{Holds}
use Rattle.pool_state.specs.Sound.{book_of}
use Rattle.pool_state.specs.declared.MemoryAllocator.{MemoryAllocator}
use Rattle.pool_state.proofs.States.{holds-state}
use Rattle.pool_state.proofs.Book.{sound-holds}
use Rattle.check_state.specs.IsSound.{is_sound_lem}
use Rattle.check_meaning.specs.Paragraph.{Sized}
use Rattle.check_meaning.proofs.Exact.{passes-sound}
use Rattle.calls.specs.Calls.{answer_of}
use Rattle.calls.specs.Answers.{Answers}
use Rattle.calls.specs.declared.MemoryError.TheVariants.{InvalidEntry}
use Rattle.calls.specs.declared.Outcome.{Outcome}
use Rattle.calls.proofs.Numbers.{answer-is}
use Rattle.core_serve.specs.Made.{held, judged}

pub answers-held : (n : ℕ) (w : Answer) (r : Outcome) → Answers n w r.answer r.state → r ≡ held n w
answers-held n w r h =
    let e = h.number in let f = h.address in
    let a = answer-is r.answer ∙ (λ z. answer_of (e z) (f z)) in
    let s = holds-state n w.book r.state h.book in
    (λ z. record { answer = a z; state = s z })

pub book-held : (n : ℕ) → n ≤ none → (s : MemoryAllocator) → Sized n s → is_sound_lem n s ≡ true → Holds n (book_of n s) s
book-held n small s z e = sound-holds n s (passes-sound n small s z e)

module _ (n : ℕ) (small : n ≤ none) (s : MemoryAllocator) (rule : Book → Answer) where
  pub sound-judged : (r : Outcome) → Sized n s → is_sound_lem n s ≡ true → ((b : Book) → Holds n b s → Answers n (rule b) r.answer r.state) → r ≡ judged n rule s
  unfolding judged
  sound-judged r z e f = answers-held n (rule (book_of n s)) r (f (book_of n s) (book-held n small s z e)) ∙ sym (ap (λ (c : Bool). cond c (held n (rule (book_of n s))) (record { answer = Err InvalidEntry; state = s })) e)

  pub unsound-judged : is_sound_lem n s ≡ false → record { answer = Err InvalidEntry; state = s } ≡ judged n rule s
  unfolding judged
  unsound-judged e = sym (ap (λ (c : Bool). cond c (held n (rule (book_of n s))) (record { answer = Err InvalidEntry; state = s })) e)
