-- The eleven fields of an account, lent one by one: the lowest figure, then the ten of the ranges. Assumes nothing.
use Rattle.std.specs.Prelude.{ℕ}
use Rattle.std.specs.Borrow.{MutBor}
use Rattle.pool_state.specs.Lent.{Lent, was, is, OfFields, fields, OfLent, turns}
use Rattle.account_state.specs.Account.{account}
use Rattle.account_state.specs.declared.Account.{Account}

-- what a `requires` says of the eleven: P of the account that they make up
abbrev pub OfEleven : Type 1
OfEleven = MutBor ℕ → OfFields

abbrev pub eleven : (Account → Type 0) → OfEleven
eleven P lowest = fields (λ s. P (account s lowest.now))

-- what an `ensures` says of them: R of the account that they made up at entry and the one at exit
abbrev pub OfLentEleven : Type 1
OfLentEleven = Lent ℕ → OfLent

abbrev pub turns_eleven : (Account → Account → Type 0) → OfLentEleven
turns_eleven R lowest = turns (λ s s'. R (account s (was lowest)) (account s' (is lowest)))
