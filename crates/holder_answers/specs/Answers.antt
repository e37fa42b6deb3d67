-- The script program after a first line `holders`: the text that a line prints, as bytes, and the state that it leaves. n is the number of records. Assumes nothing.
use Rattle.std.specs.Prelude.{ℕ, cond, List, [], ◌∷◌, ◌++◌, ◌≡◌, eqb, length}
use Rattle.std.specs.Borrow.{MutBor}
use Rattle.rules.specs.Rules.{Range, sum}
use Rattle.pool_state.specs.Lent.{Lent, was, is, OfFields, OfLent, fields, turns}
use Rattle.pool_state.specs.declared.MemoryAllocator.{MemoryAllocator}
use Rattle.memory_allocator.specs.States.{states}
use Rattle.calls.specs.Calls.{number_of}
use Rattle.holder_rules.specs.Register.{entries}
use Rattle.holder_rules.specs.States.{holding_of}
use Rattle.holder_rules.specs.declared.Entry.{Entry}
use Rattle.holder_rules.specs.declared.HolderAllocator.{HolderAllocator}
use Rattle.holder_laws.specs.Demand.{SoundHolding}
use Rattle.holder_serve.specs.Made.{HolderAnswer, requested, made}
use Rattle.holder_serve.specs.declared.HolderRequest.{HolderRequest}
use Rattle.holder_lists.specs.Whose.{found, ranges}
use Rattle.holder_lists.specs.Accounts.{asked_of}
use Rattle.holder_lists.specs.declared.Whose.{Whose}
use Rattle.holder_words.specs.Words.{entries_in}
use Rattle.script_texts.specs.Answers.{no_text, bad_text}
use Rattle.script_replies.specs.Replies.{PutsWithin}
use Rattle.script_answers.specs.Script.{listing_text, room}
use Rattle.holder_replies.specs.Replies.{holder_reply, head_text, row_text}
use Rattle.holder_lines.specs.Lines.{holder_line_of}
use Rattle.holder_lines.specs.declared.HolderLine.{HolderLine}
use Rattle.holder_lines.specs.declared.HolderLine.TheVariants as Say

-- ---- the texts

-- one line a range
unfoldable pub rows_text : List Range → List ℕ
rows_text [] = []
rows_text (q ∷ l) = row_text q.number q.start q.last ++ rows_text l

-- the number of ranges and of bytes, then the ranges by address
unfoldable pub ranges_text : Whose → List Entry → List ℕ
ranges_text w r = head_text (length (ranges w r)) (sum (found w r)) ++ rows_text (ranges w r)

-- an unsound state, and a number that is no holder's, have no ranges to list
unfoldable pub held_text : ℕ → HolderAllocator → Whose → List ℕ
held_text n s w = cond (eqb (number_of (asked_of n s w)) 0) (ranges_text w s.register.entries) (no_text (number_of (asked_of n s w)))

-- ---- a line

unfoldable pub holder_text : ℕ → HolderAllocator → HolderLine → List ℕ
holder_text n s (Say.Asks q) = holder_reply q (made n s (requested q)).answer
holder_text n s (Say.Held w) = held_text n s w
holder_text n s Say.List = listing_text n s.memory
holder_text n s Say.Bad = bad_text

unfoldable pub holder_after : ℕ → HolderAllocator → HolderLine → HolderAllocator
holder_after n s (Say.Asks q) = (made n s (requested q)).state
holder_after n s (Say.Held w) = s
holder_after n s Say.List = s
holder_after n s Say.Bad = s

-- the line l is answered: the state s', and the text from `at` on; r is the place after it
pub record HolderSays (n : ℕ) (s : HolderAllocator) (l : HolderLine) (out : List ℕ) (at : ℕ) (s' : HolderAllocator) (r : ℕ) (out' : List ℕ) : Type 0 where
  pub state : s' ≡ holder_after n s l
  pub text : PutsWithin (room n) (holder_text n s l) out at out' r

-- ---- the ten fields of the allocator that are lent, and the words of the register

abbrev pub state_in_lem : MemoryAllocator → List ℕ → HolderAllocator
state_in_lem m w = record { memory = m; register = record { entries = entries_in w entries } }

abbrev pub Sound : ℕ → HolderAllocator → Type 0
Sound n s = SoundHolding (states n) entries (holding_of s)

abbrev pub SoundWords : ℕ → MutBor (List ℕ) → OfFields
SoundWords n words = fields (λ m. Sound n (state_in_lem m words.now))

abbrev pub turns_words : (HolderAllocator → HolderAllocator → Type 0) → Lent (List ℕ) → OfLent
turns_words R words = turns (λ m m'. R (state_in_lem m (was words)) (state_in_lem m' (is words)))

abbrev pub ServesIn : ℕ → HolderRequest → HolderAnswer → Lent (List ℕ) → OfLent
ServesIn n q k = turns_words (λ s s'. record { answer = k; state = s' } ≡ made n s (requested q))

abbrev pub SaysIn : ℕ → HolderLine → Lent (List ℕ) → ℕ → ℕ → Lent (List ℕ) → OfLent
SaysIn n l out at r = turns_words (λ s s'. HolderSays n s l (was out) at s' r (is out))

abbrev pub HolderSaysIn : ℕ → List ℕ → Lent (List ℕ) → ℕ → ℕ → Lent (List ℕ) → OfLent
HolderSaysIn n line out at r = SaysIn n (holder_line_of line) out at r
