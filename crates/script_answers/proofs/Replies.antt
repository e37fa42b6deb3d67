-- A line is answered where there is room, and else nothing is done. n is the number of records. Assumes nothing.
use mathlib.Core.Path.{◌≡◌, refl, sym, ap, ◌∙◌}
use mathlib.Core.Bool.{Bool, true, false, not, cond}
use mathlib.Core.List.{List}
use Prim.Native.Nat.{ℕ, ◌+◌, ◌≤◌}
use native.Mathlib.Omega.{arith}
use borrow.Author.Tests.{leb-true, not-true, not-false}
use lib.ListN.{length}
use Rattle.linked_lists.specs.Links.{none}
use Rattle.rules.specs.Rules.{Book, step}
use Rattle.pool_state.specs.State.{Holds}
use Rattle.pool_state.specs.Sound.{book_of, SoundState}
use Rattle.pool_state.specs.declared.MemoryAllocator.{MemoryAllocator}
use Rattle.pool_state.proofs.Book.{holds-sound, sound-holds}
use Rattle.pool_chain.specs.Chain.{Ordered}
use Rattle.pool_chain.proofs.Held.{chain-ordered}
use Rattle.check_meaning.proofs.Exact.{sound-sized, sound-passes}
use Rattle.calls.specs.Calls.{Answer, call_of}
use Rattle.calls.specs.Answers as in_place
use Rattle.calls.specs.declared.Outcome.{Outcome}
use Rattle.calls.specs.declared.Request.{Request}
use Rattle.core_serve.specs.Made.{made}
use Rattle.core_serve.proofs.Judged.{sound-judged}
use Rattle.script_lines.specs.declared.parse.Line.{Line}
use Rattle.script_lines.specs.declared.parse.Line.TheVariants as Say
use Rattle.script_answers.specs.Script.{room, roomy, chain_text, listing_text, text_of, state_after, Says, Answers}
use Rattle.script_replies.specs.Replies.{line, reply_text, PutsWithin}

no : true ≡ false → ⊥
no e = let z : ◌≡◌ {A = ℕ} 0 1 = cc in omega arith

pub has-space : (n : ℕ) (out : List ℕ) (at : ℕ) (b : Bool) → b ≡ roomy n out at → not b ≡ false → at + room n ≤ length out
has-space n out at b is h = leb-true (at + room n) (length out) (sym is ∙ not-false b h)

module _ (n : ℕ) (s : MemoryAllocator) (l : Line) (out : List ℕ) (at : ℕ) (b : Bool) (is : b ≡ roomy n out at) where
  pub unanswered : not b ≡ true → Answers n s l out at s at out
  unanswered h = let e : roomy n out at ≡ false = sym is ∙ not-true b h in record { state = rw e; bytes = rw e; next = rw e; whole = λ y. absurd (let z : ◌≡◌ {A = Bool} true false = sym y ∙ e in no z) }

  pub answered : not b ≡ false → (k : Line) (s' : MemoryAllocator) (r : ℕ) (out' : List ℕ) → l ≡ k → Says n (state_after n s k) (text_of n s k) out at s' r out' → Answers n s l out at s' r out'
  answered h k s' r out' e w =
      let yes : roomy n out at ≡ true = sym is ∙ not-false b h in
      record { state = rw (yes, e) w.state; bytes = rw (yes, e) w.text.puts.bytes; next = rw (yes, e) w.text.puts.next; whole = λ _. rw e w.text.short }

-- a state that holds some book, and what its lines say
module _ (n : ℕ) (small : n ≤ none) (s : MemoryAllocator) (some : (b : Book) × Holds n b s) where
  sound : SoundState n s
  sound = holds-sound n small some.0 s some.1

  module _ (q : Request) (k : Answer) (s' : MemoryAllocator) (f : (b : Book) → Holds n b s → in_place.Answers n (step n (call_of q) b) k s') where
    made-here : record { answer = k; state = s' } ≡ made n s (call_of q)
    made-here = sound-judged n small s (step n (call_of q)) (record { answer = k; state = s' }) (sound-sized n small s sound) (sound-passes n small s sound) f

    pub request-says : (out : List ℕ) (at r : ℕ) (out' : List ℕ) → PutsWithin line (reply_text q k) out at out' r → Says n (state_after n s (Say.Asks q)) (text_of n s (Say.Asks q)) out at s' r out'
    unfolding text_of state_after
    request-says out at r out' p =
        let h = p.short in
        let e = made-here in
        let w : PutsWithin (room n) (reply_text q k) out at out' r = record { short = omega arith; puts = p.puts } in
        record { state = ap (λ (o : Outcome). o.state) e; text = rw (ap (λ (o : Outcome). o.answer) e) at w }

  -- the chain that is listed
  pub chain-here : Ordered n (book_of n s).chain s.start s.end s.next s.first_entry.0
  chain-here = chain-ordered n (book_of n s) s (sound-holds n s sound)

  pub listing-says : (out : List ℕ) (at r : ℕ) (out' : List ℕ) → PutsWithin (room n) (chain_text (book_of n s).chain s.free_size) out at out' r
      → Says n (state_after n s Say.List) (text_of n s Say.List) out at s r out'
  unfolding text_of state_after listing_text
  listing-says out at r out' p = record { state = refl; text = rw (sound-passes n small s sound, ← (sound-holds n s sound).counts) p }
