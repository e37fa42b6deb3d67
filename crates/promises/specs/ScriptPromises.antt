-- What is promised of the script program, sentence by sentence; `crates/promises/proofs/ScriptPromises.antt` shows each. n is the number of records. Assumes nothing.
use Rattle.std.specs.Prelude.{ℕ, true, false, List, [], ◌++◌, ◌≡◌}
use Rattle.rules.specs.Rules.{empty}
use Rattle.pool_state.specs.State.{state_of}
use Rattle.holder_rules.specs.States.{new_of}
use Rattle.script_forms.specs.Forms.{Desk, desk}
use Rattle.script_sessions.specs.Sessions.{Run, told_of, output_of}
use Rattle.script_sessions.specs.declared.Session.{Session}
use Rattle.promises.specs.Lines.{lines_from, texts_of, input_left, InputDemand}
use Rattle.promises.specs.HolderLines.{begins_register_lem, holders_line, holder_lines_from, holders_left, holder_texts, AtDesk}

pub record ScriptPromises (n : ℕ) : Type 0 where
  -- once the input has ended, all that was handed to the writer is the output for what was read;
  pub all-answered : (k : ℕ) (read handed : List ℕ) (m : Desk) (s : Session) (carry chunk out : List ℕ) → Run n k read handed m s carry chunk out → s.ended ≡ true → handed ≡ output_of n read
  -- before, it is a beginning of it, whatever the rest of the input is
  pub always-beginning : (k : ℕ) (read handed : List ℕ) (m : Desk) (s : Session) (carry chunk out : List ℕ) → Run n k read handed m s carry chunk out → s.ended ≡ false
      → (rest : List ℕ) → (w : List ℕ) × (output_of n (read ++ rest) ≡ handed ++ w)
  -- Without a first line `holders` the state and the text of an input are document 01's: those of its lines, one after the other;
  pub heard-lines : (l : List ℕ) → begins_register_lem [] l ≡ false → ((told_of n l).state.state.memory ≡ input_left n l) × ((told_of n l).text ≡ texts_of n (state_of n empty) (lines_from [] l))
  -- after it they are those of the other lines in the register's forms, from nothing free and nothing held.
  pub heard-holders : (l : List ℕ) → ((told_of n (holders_line ++ l)).state ≡ desk 2 (holders_left n (new_of n) (holder_lines_from [] l))) × ((told_of n (holders_line ++ l)).text ≡ holder_texts n (new_of n) (holder_lines_from [] l))
  -- demand 3 of document 01's lines
  pub books-close : InputDemand n
  -- demands 2 and 3 of the register's
  pub holders-close : AtDesk n
