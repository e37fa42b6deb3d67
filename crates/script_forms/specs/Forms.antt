-- The script program with both forms of lines: "The first line `holders`, just these seven bytes, is not answered and begins the forms below for the rest of the
-- input. Anywhere else it is `bad`. Without it the program is document 01's, byte for byte." n is the number of records. Assumes nothing.
use Rattle.std.specs.Prelude.{ℕ, Bool, true, false, cond, ◌&&◌, List, [], ◌∷◌, ◌≡◌, eqb}
use Rattle.std.specs.Borrow.{MutBor}
use Rattle.pool_state.specs.Lent.{Lent, was, is, OfFields, OfLent, fields, turns}
use Rattle.pool_state.specs.Sound.{SoundState}
use Rattle.pool_state.specs.declared.MemoryAllocator.{MemoryAllocator}
use Rattle.holder_rules.specs.States.{new_of}
use Rattle.holder_rules.specs.declared.HolderAllocator.{HolderAllocator}
use Rattle.script_lines.specs.Script.{line_of}
use Rattle.script_answers.specs.Script.{room, text_of, state_after}
use Rattle.script_replies.specs.Replies.{PutsWithin}
use Rattle.holder_lines.specs.Lines.{holder_line_of}
use Rattle.holder_answers.specs.Answers.{holder_text, holder_after, state_in_lem, Sound}

unfoldable pub same : List ℕ → List ℕ → Bool
same [] [] = true
same [] (b ∷ m) = false
same (a ∷ l) [] = false
same (a ∷ l) (b ∷ m) = eqb a b && same l m

-- `holders`
abbrev pub opens : List ℕ → Bool
opens l = same l (104 ∷ 111 ∷ 108 ∷ 100 ∷ 101 ∷ 114 ∷ 115 ∷ [])

-- the forms that lines have, 0 until one has ended, then 1 for document 01's and 2 for the register's; and the state
pub record Desk : Type 0 where
  pub forms : ℕ
  pub state : HolderAllocator

abbrev pub desk : ℕ → HolderAllocator → Desk
desk f s = record { forms = f; state = s }

-- nothing is read, free or held
abbrev pub open_desk : ℕ → Desk
open_desk n = desk 0 (new_of n)

abbrev pub with_memory : MemoryAllocator → HolderAllocator → HolderAllocator
with_memory m s = record { memory = m; register = s.register }

-- ---- a line, as bytes: what it prints, and what it leaves

unfoldable pub says : ℕ → Desk → List ℕ → List ℕ
says n d l =
    cond (eqb d.forms 2) (holder_text n d.state (holder_line_of l))
    (cond (eqb d.forms 0 && opens l) []
    (text_of n d.state.memory (line_of l)))

unfoldable pub leaves : ℕ → Desk → List ℕ → Desk
leaves n d l =
    cond (eqb d.forms 2) (desk d.forms (holder_after n d.state (holder_line_of l)))
    (cond (eqb d.forms 0 && opens l) (desk 2 d.state)
    (desk 1 (with_memory (state_after n d.state.memory (line_of l)) d.state)))

-- the line l is answered: the desk d', and the text from `at` on; r is the place after it
pub record Replies (n : ℕ) (d : Desk) (l out : List ℕ) (at : ℕ) (d' : Desk) (r : ℕ) (out' : List ℕ) : Type 0 where
  pub left : d' ≡ leaves n d l
  pub text : PutsWithin (room n) (says n d l) out at out' r

-- the allocator's state is sound, and the register beside it, unless document 01's forms leave it aside
pub record SoundDesk (n : ℕ) (d : Desk) : Type 0 where
  pub memory : SoundState n d.state.memory
  pub whole : eqb d.forms 1 ≡ false → Sound n d.state

-- ---- the same of the ten fields that are lent, the forms, and the words of the register

abbrev pub desk_in : ℕ → List ℕ → MemoryAllocator → Desk
desk_in f w m = desk f (state_in_lem m w)

abbrev pub SoundIn : ℕ → MutBor ℕ → MutBor (List ℕ) → OfFields
SoundIn n forms words = fields (λ m. SoundDesk n (desk_in forms.now words.now m))

abbrev pub turns_desk : (Desk → Desk → Type 0) → Lent ℕ → Lent (List ℕ) → OfLent
turns_desk R forms words = turns (λ m m'. R (desk_in (was forms) (was words) m) (desk_in (is forms) (is words) m'))

abbrev pub RepliesIn : ℕ → List ℕ → Lent (List ℕ) → ℕ → ℕ → Lent ℕ → Lent (List ℕ) → OfLent
RepliesIn n line out at r = turns_desk (λ d d'. Replies n d line (was out) at d' r (is out))
