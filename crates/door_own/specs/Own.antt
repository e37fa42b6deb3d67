-- What the calls on a state of one's own answer and leave, for all fields and all numbers. n is the number of records. Assumes nothing.
use Rattle.std.specs.Prelude.{ℕ, cond, ◌≡◌, ℤ, Err}
use Rattle.rules.specs.Rules as rules
use Rattle.rules.specs.Rules.{Book}
use Rattle.calls.specs.Calls.{signed_of}
use Rattle.calls.specs.declared.MemoryError.TheVariants.{InvalidEntry}
use Rattle.account_state.specs.Lent.{OfLentEleven, turns_eleven}
use Rattle.account_state.specs.declared.Account.{Account}
use Rattle.account_state.specs.declared.Entered.{Entered}
use Rattle.account_calls.specs.Made.{judged}
use Rattle.door_fields.specs.Fields.{is_sized_lem}

-- what the call answers and leaves is what the call on an account by value does (`Made.antt` of account_calls)
unfoldable pub judged_here : ℕ → (Book → rules.Answer) → Account → Entered
judged_here n rule a = cond (is_sized_lem n a.ranges) (judged n rule a) (record { answer = Err InvalidEntry; state = a })

-- r is the signed number of its answer, and the lent fields hold the account
pub record Judged (n : ℕ) (rule : Book → rules.Answer) (r : ℤ) (a a' : Account) : Type 0 where
  pub number : r ≡ signed_of (judged_here n rule a).answer
  pub state : a' ≡ (judged_here n rule a).state

abbrev pub Judges : ℕ → (Book → rules.Answer) → ℤ → OfLentEleven
Judges n rule r = turns_eleven (Judged n rule r)
