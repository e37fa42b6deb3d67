-- The script's lines as a client of the states, and the lines of an input. n is the number of records. Assumes nothing.
use Rattle.std.specs.Prelude.{ℕ, Bool, false, cond, List, [], ◌∷◌, ◌++◌, ◌≡◌, eqb}
use Rattle.rules.specs.Rules.{empty, Voucher}
use Rattle.rules_engine.specs.Demand.{DemandOf}
use Rattle.pool_state.specs.State.{state_of}
use Rattle.pool_state.specs.declared.MemoryAllocator.{MemoryAllocator}
use Rattle.calls.specs.Calls.{call_of, voucher_of}
use Rattle.core_serve.specs.Made.{made}
use Rattle.memory_allocator.specs.States.{states}
use Rattle.script_lines.specs.Script.{line_of}
use Rattle.script_lines.specs.declared.parse.Line.{Line}
use Rattle.script_lines.specs.declared.parse.Line.TheVariants as Say
use Rattle.script_answers.specs.Script.{text_of, state_after}
use Rattle.promises.specs.Clients.{Client, left_by, kept_by}

-- no line begins anew
abbrev pub line_renews : Line → Bool
line_renews l = false

-- a line that is a call leaves its voucher, the call with the answer whose text is printed (`text_of`)
abbrev pub line_gives : ℕ → Line → MemoryAllocator → List Voucher
line_gives n (Say.Asks q) s = voucher_of (call_of q) (made n s (call_of q)).answer ∷ []
line_gives n Say.List s = []
line_gives n Say.Bad s = []

abbrev pub line_client : (n : ℕ) → Client (states n)
line_client n = record { Act = Line; renews = line_renews; gives = line_gives n; next = λ l s. state_after n s l }

-- the lines of an input that a newline has ended; p is what was read of the first one before
unfoldable pub lines_from : List ℕ → List ℕ → List Line
lines_from p [] = []
lines_from p (b ∷ l) = cond (eqb b 10) (line_of p ∷ lines_from [] l) (lines_from (p ++ (b ∷ [])) l)

-- the texts that lines print, each on the state that the one before it left
unfoldable pub texts_of : ℕ → MemoryAllocator → List Line → List ℕ
texts_of n s [] = []
texts_of n s (l ∷ ls) = text_of n s l ++ texts_of n (state_after n s l) ls

-- the state that an input leaves, and its vouchers
abbrev pub input_left : ℕ → List ℕ → MemoryAllocator
input_left n l = left_by (states n) (line_client n) (state_of n empty) (lines_from [] l)

abbrev pub input_kept : ℕ → List ℕ → List Voucher
input_kept n l = kept_by (states n) (line_client n) (state_of n empty) [] (lines_from [] l)

-- demand 3 of the script: the histories are inputs, byte by byte
abbrev pub InputDemand : ℕ → Type 0
InputDemand n = DemandOf (states n) (List ℕ) (input_left n) (input_kept n)
