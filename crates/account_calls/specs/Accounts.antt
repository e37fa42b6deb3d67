-- The total and the lowest figure of an account. n is the number of records. Assumes nothing.
use Rattle.std.specs.Prelude.{ℕ, cond}
use Rattle.rules.specs.Rules as rules
use Rattle.pool_state.specs.Sound.{book_of}
use Rattle.calls.specs.declared.MemoryError.TheVariants.{InvalidEntry}
use Rattle.calls.specs.Calls.{Counted}
use Rattle.core_accounts.specs.Accounts.{counted, refused}
use Rattle.account_state.specs.Account.{is_sound_lem}
use Rattle.account_state.specs.declared.Account.{Account}

unfoldable pub total_of : ℕ → Account → Counted
total_of n a = cond (is_sound_lem n a) (counted (rules.total (book_of n a.ranges))) (refused InvalidEntry)

-- 2^64-1 before the first accepted free
unfoldable pub lowest_of : ℕ → Account → Counted
lowest_of n a = cond (is_sound_lem n a) (counted a.lowest) (refused InvalidEntry)
