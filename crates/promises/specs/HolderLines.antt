-- The script's lines in the register's forms, and demands 2 and 3 of them. n is the number of records. Assumes nothing.
use Rattle.std.specs.Prelude.{ℕ, Bool, false, cond, List, [], ◌∷◌, ◌++◌, map, ◌≡◌, eqb}
use Rattle.memory_allocator.specs.States.{states}
use Rattle.holder_rules.specs.Register.{entries}
use Rattle.holder_rules.specs.Holders.{Call, Voucher}
use Rattle.holder_rules.specs.States.{new_of, with_register}
use Rattle.holder_rules.specs.declared.HolderAllocator.{HolderAllocator}
use Rattle.holder_laws.specs.Demand as demands
use Rattle.holder_serve.specs.Made.{requested, voucher_of, made}
use Rattle.holder_lines.specs.Lines.{holder_line_of}
use Rattle.holder_lines.specs.declared.HolderLine.{HolderLine}
use Rattle.holder_lines.specs.declared.HolderLine.TheVariants as Say
use Rattle.holder_answers.specs.Answers.{holder_text, holder_after}
use Rattle.script_forms.specs.Forms.{opens, desk}
use Rattle.script_sessions.specs.Sessions.{told_of}

-- the first line of an input, where a newline has ended it, is `holders`; p is what was read of it before
unfoldable pub begins_register_lem : List ℕ → List ℕ → Bool
begins_register_lem p [] = false
begins_register_lem p (b ∷ l) = cond (eqb b 10) (opens p) (begins_register_lem (p ++ (b ∷ [])) l)

-- `holders` and a newline
abbrev pub holders_line : List ℕ
holders_line = 104 ∷ 111 ∷ 108 ∷ 100 ∷ 101 ∷ 114 ∷ 115 ∷ 10 ∷ []

unfoldable pub holder_lines_from : List ℕ → List ℕ → List HolderLine
holder_lines_from p [] = []
holder_lines_from p (b ∷ l) = cond (eqb b 10) (holder_line_of p ∷ holder_lines_from [] l) (holder_lines_from (p ++ (b ∷ [])) l)

unfoldable pub holder_texts : ℕ → HolderAllocator → List HolderLine → List ℕ
holder_texts n s [] = []
holder_texts n s (l ∷ ls) = holder_text n s l ++ holder_texts n (holder_after n s l) ls

unfoldable pub holders_left : ℕ → HolderAllocator → List HolderLine → HolderAllocator
holders_left n s [] = s
holders_left n s (l ∷ ls) = holders_left n (holder_after n s l) ls

-- the call that a line makes, if it makes one; the calls of lines, in order
abbrev pub calls_in : HolderLine → List Call
calls_in (Say.Asks q) = requested q ∷ []
calls_in (Say.Held w) = []
calls_in Say.List = []
calls_in Say.Bad = []

unfoldable pub holder_calls_lem : List HolderLine → List Call
holder_calls_lem [] = []
holder_calls_lem (l ∷ ls) = calls_in l ++ holder_calls_lem ls

-- what is kept of them: each call with the answer whose text is printed (`holder_text`)
unfoldable pub holders_kept : ℕ → HolderAllocator → List HolderLine → List Voucher
holders_kept n s [] = []
holders_kept n s (l ∷ ls) = map (λ c. voucher_of c (made n s c).answer) (calls_in l) ++ holders_kept n (holder_after n s l) ls

-- demands 2 and 3 of the script as request T-07 reads them: the histories are inputs after the line `holders`. What they leave is what the calls in their lines leave, and so is what is kept of them.
pub record AtDesk (n : ℕ) : Type 0 where
  pub left : (l : List ℕ) → (told_of n (holders_line ++ l)).state ≡ desk 2 (with_register (demands.left (states n) entries (holder_calls_lem (holder_lines_from [] l))))
  pub kept : (l : List ℕ) → holders_kept n (new_of n) (holder_lines_from [] l) ≡ demands.kept (states n) entries (holder_calls_lem (holder_lines_from [] l))
  pub demand : demands.Demand (states n) entries
