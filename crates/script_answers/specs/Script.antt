-- Document 01's script program: the text that a line prints, as bytes, and the state that it leaves. n is the number of records. Assumes nothing.
use Rattle.std.specs.Prelude.{ℕ, ◌+◌, ◌*◌, ◌≤◌, Bool, true, cond, List, [], ◌∷◌, ◌++◌, ◌≡◌, leb, length}
use Rattle.rules.specs.Rules as rules
use Rattle.rules.specs.Rules.{Range}
use Rattle.pool_state.specs.Lent.{Lent, was, is, OfLent, turns}
use Rattle.pool_state.specs.Sound.{book_of}
use Rattle.pool_state.specs.declared.MemoryAllocator.{MemoryAllocator}
use Rattle.check_state.specs.IsSound.{is_sound_lem}
use Rattle.calls.specs.Calls.{call_of}
use Rattle.core_serve.specs.Made.{made}
use Rattle.script_texts.specs.Answers.{no_text, bad_text, range_text, list_text, written, past}
use Rattle.script_lines.specs.Script.{line_of}
use Rattle.script_lines.specs.declared.parse.Line.{Line}
use Rattle.script_lines.specs.declared.parse.Line.TheVariants as Say
use Rattle.script_replies.specs.Replies.{reply_text, line, PutsWithin}

-- ---- the texts

-- one line a range
unfoldable pub ranges_text : List Range → List ℕ
ranges_text [] = []
ranges_text (r ∷ c) = range_text r.start r.last ++ ranges_text c

-- the number of ranges and the total, then the ranges by address
unfoldable pub chain_text : List Range → ℕ → List ℕ
chain_text c total = list_text (length c) total ++ ranges_text c

-- an unsound state has no ranges to list
unfoldable pub listing_text : ℕ → MemoryAllocator → List ℕ
listing_text n s = cond (is_sound_lem n s) (chain_text (book_of n s).chain (rules.total (book_of n s))) (no_text 2)

-- ---- a line

unfoldable pub text_of : ℕ → MemoryAllocator → Line → List ℕ
text_of n s (Say.Asks q) = reply_text q (made n s (call_of q)).answer
text_of n s Say.List = listing_text n s
text_of n s Say.Bad = bad_text

unfoldable pub state_after : ℕ → MemoryAllocator → Line → MemoryAllocator
state_after n s (Say.Asks q) = (made n s (call_of q)).state
state_after n s Say.List = s
state_after n s Say.Bad = s

-- ---- a line's text in a buffer

-- enough for the head of a listing and n ranges
abbrev pub room : ℕ → ℕ
room n = line * (n + 1)

abbrev pub roomy : ℕ → List ℕ → ℕ → Bool
roomy n out at = leb (at + room n) (length out)

-- the state t, and the text u; r is the place after it
pub record Says (n : ℕ) (t : MemoryAllocator) (u out : List ℕ) (at : ℕ) (s' : MemoryAllocator) (r : ℕ) (out' : List ℕ) : Type 0 where
  pub state : s' ≡ t
  pub text : PutsWithin (room n) u out at out' r

-- the line l is answered where there is room for any answer; elsewhere nothing changes
pub record Answers (n : ℕ) (s : MemoryAllocator) (l : Line) (out : List ℕ) (at : ℕ) (s' : MemoryAllocator) (r : ℕ) (out' : List ℕ) : Type 0 where
  pub state : s' ≡ cond (roomy n out at) (state_after n s l) s
  pub bytes : out' ≡ cond (roomy n out at) (written (text_of n s l) out at) out
  pub next : r ≡ cond (roomy n out at) (past (text_of n s l) out at) at
  pub whole : roomy n out at ≡ true → length (text_of n s l) ≤ room n

-- the same of the ten fields of a state that are lent
abbrev pub SaysIn : ℕ → Line → Lent (List ℕ) → ℕ → ℕ → OfLent
SaysIn n l out at r = turns (λ s s'. Says n (state_after n s l) (text_of n s l) (was out) at s' r (is out))

abbrev pub AnswersIn : ℕ → List ℕ → Lent (List ℕ) → ℕ → ℕ → OfLent
AnswersIn n line out at r = turns (λ s s'. Answers n s (line_of line) (was out) at s' r (is out))
