-- What any call answers and leaves, for every state. n is the number of records. Assumes nothing.
use Rattle.std.specs.Prelude.{ℕ, cond, Err}
use Rattle.rules.specs.Rules as rules
use Rattle.rules.specs.Rules.{Book}
use Rattle.pool_state.specs.State.{state_of}
use Rattle.pool_state.specs.Sound.{book_of}
use Rattle.pool_state.specs.declared.MemoryAllocator.{MemoryAllocator}
use Rattle.check_state.specs.IsSound.{is_sound_lem}
use Rattle.calls.specs.Calls.{answer_of}
use Rattle.calls.specs.declared.MemoryError.TheVariants.{InvalidEntry}
use Rattle.calls.specs.declared.Outcome.{Outcome}

-- an answer of the rules, with the state that holds its book
abbrev pub held : ℕ → rules.Answer → Outcome
held n w = record { answer = answer_of w.number w.address; state = state_of n w.book }

-- a sound state is answered by the rule, on the book that its links lead to; an unsound one is InvalidEntry, and comes back as it was
unfoldable pub judged : ℕ → (Book → rules.Answer) → MemoryAllocator → Outcome
judged n rule s = cond (is_sound_lem n s) (held n (rule (book_of n s))) (record { answer = Err InvalidEntry; state = s })

-- any call
abbrev pub made : ℕ → MemoryAllocator → rules.Call → Outcome
made n s c = judged n (rules.step n c) s
