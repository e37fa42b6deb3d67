-- The account by value, as an engine: what a call answers and leaves, and what is read off an account. n is the number of records. Assumes nothing.
use Rattle.std.specs.Prelude.{ℕ}
use Rattle.rules_engine.specs.Engine.{Engine}
use Rattle.pool_state.specs.Sound.{book_of}
use Rattle.calls.specs.Calls.{voucher_of}
use Rattle.account_state.specs.Account.{opened, SoundAccount}
use Rattle.account_state.specs.declared.Account.{Account}
use Rattle.account_calls.specs.Made.{made}

abbrev pub accounts : ℕ → Engine
accounts n = record {
  State = Account;
  new = opened n;
  answer = λ c a. voucher_of c (made n a c).answer;
  next = λ c a. (made n a c).state;
  book = λ a. book_of n a.ranges;
  total = λ a. a.ranges.free_size;
  Sound = SoundAccount n;
}

-- the figure that it carries
abbrev pub lowest_in : Account → ℕ
lowest_in a = a.lowest
