-- An account: the free ranges and the lowest figure beside them; and when it is sound. n is the number of records. Assumes nothing.
use Rattle.std.specs.Prelude.{ℕ, Bool, true, ◌&&◌, ◌≡◌}
use Rattle.rules.specs.Rules.{empty}
use Rattle.rules_lowest.specs.Lowest.{never, low_sound}
use Rattle.pool_state.specs.State.{state_of}
use Rattle.pool_state.specs.Sound.{SoundState}
use Rattle.pool_state.specs.declared.MemoryAllocator.{MemoryAllocator}
use Rattle.check_state.specs.IsSound as ranges
use Rattle.account_state.specs.declared.Account.{Account}

abbrev pub account : MemoryAllocator → ℕ → Account
account s low = record { ranges = s; lowest = low }

-- the account of `new`
abbrev pub opened : ℕ → Account
opened n = account (state_of n empty) never

-- the ranges are sound, and the figure may stand beside their total
pub record SoundAccount (n : ℕ) (a : Account) : Type 0 where
  pub ranges : SoundState n a.ranges
  pub low : low_sound a.ranges.free_size a.lowest ≡ true

-- the check
abbrev pub is_sound_lem : ℕ → Account → Bool
is_sound_lem n a = ranges.is_sound_lem n a.ranges && low_sound a.ranges.free_size a.lowest
