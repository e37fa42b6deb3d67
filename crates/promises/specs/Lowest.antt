-- What is promised of accounts by value, and of the lowest figure that a client's calls leave; `crates/promises/proofs/Lowest.antt` shows each sentence of the record.
-- n is the number of records. Assumes nothing.
use Rattle.std.specs.Prelude.{ℕ, true, List, [], ◌≢◌, ◌↔◌, ◌≡◌}
use Rattle.rules.specs.Rules.{Call}
use Rattle.rules_engine.specs.Engine.{Engine}
use Rattle.rules_engine.specs.Demand.{Demand}
use Rattle.rules_lowest.specs.Carried.{LowestOf, Lowest, CountsFrom}
use Rattle.check_meaning.specs.Paragraph.{Sized}
use Rattle.calls.specs.Calls.{number_of}
use Rattle.account_state.specs.Account.{SoundAccount, is_sound_lem}
use Rattle.account_state.specs.declared.Account.{Account}
use Rattle.core_serve.specs.Made as ranges
use Rattle.account_calls.specs.Made.{made}
use Rattle.account_calls.specs.Engine.{accounts, lowest_in}
use Rattle.promises.specs.Clients.{Client, left_by, kept_by}

pub record AccountPromises (n : ℕ) : Type 0 where
  -- the check says yes exactly for a sound account
  pub exact : (a : Account) → Sized n a.ranges → (is_sound_lem n a ≡ true) ↔ SoundAccount n a
  -- a sound account's call answers what it answers on the ranges alone, and leaves them so
  pub same_answer : (a : Account) (c : Call) → is_sound_lem n a ≡ true → (made n a c).answer ≡ (ranges.made n a.ranges c).answer
  pub same_left : (a : Account) (c : Call) → is_sound_lem n a ≡ true → (made n a c).state.ranges ≡ (ranges.made n a.ranges c).state
  -- a refused call hands back the identical account
  pub refused-same : (a : Account) (c : Call) → Sized n a.ranges → number_of (made n a c).answer ≢ 0 → (made n a c).state ≡ a
  -- demand 3; the figure is the least total after an accepted call, counted from the calls and their answers alone, and so it goes on from any sound account
  pub books-close : Demand (accounts n)
  pub lowest-counted : Lowest (accounts n) lowest_in
  pub lowest-from : (a : Account) → SoundAccount n a → CountsFrom (accounts n) lowest_in a

-- the same of a client's acts, from the last one on that began anew
abbrev pub ClientLowest : (e : Engine) → Client e → (e.State → ℕ) → Type 0
ClientLowest e d low = LowestOf e low (List d.Act) (left_by e d e.new) (kept_by e d e.new [])
