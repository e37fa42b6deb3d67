-- What any call on an account answers and leaves, for every account. n is the number of records. Assumes nothing.
use Rattle.std.specs.Prelude.{ℕ, cond, Err}
use Rattle.rules.specs.Rules as rules
use Rattle.rules.specs.Rules.{Book, total}
use Rattle.rules_lowest.specs.Lowest.{noted}
use Rattle.pool_state.specs.State.{state_of}
use Rattle.pool_state.specs.Sound.{book_of}
use Rattle.calls.specs.Calls.{answer_of}
use Rattle.calls.specs.declared.MemoryError.TheVariants.{InvalidEntry}
use Rattle.account_state.specs.Account.{account, is_sound_lem}
use Rattle.account_state.specs.declared.Account.{Account}
use Rattle.account_state.specs.declared.Entered.{Entered}

-- an answer of the rules, with the account that holds its book; the figure that stood before it is noted
abbrev pub held : ℕ → ℕ → rules.Answer → Entered
held n low w = record { answer = answer_of w.number w.address; state = account (state_of n w.book) (noted w.number (total w.book) low) }

-- a sound account is answered by the rule, on the book that its links lead to; an unsound one is InvalidEntry, and comes back as it was
unfoldable pub judged : ℕ → (Book → rules.Answer) → Account → Entered
judged n rule a = cond (is_sound_lem n a) (held n a.lowest (rule (book_of n a.ranges))) (record { answer = Err InvalidEntry; state = a })

-- any call
abbrev pub made : ℕ → Account → rules.Call → Entered
made n a c = judged n (rules.step n c) a

abbrev pub allocate_of : ℕ → Account → ℕ → ℕ → Entered
allocate_of n a z o = judged n (rules.allocate n z o) a

abbrev pub reserve_of : ℕ → Account → ℕ → ℕ → ℕ → Entered
reserve_of n a s z o = judged n (rules.reserve n s z o) a

abbrev pub free_of : ℕ → Account → ℕ → ℕ → Entered
free_of n a s z = judged n (rules.free n s z) a
