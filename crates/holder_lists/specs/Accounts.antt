-- The lists and the totals of a state with a register. n is the number of records. Assumes nothing.
use Rattle.std.specs.Prelude.{ℕ, cond, List, ◌≡◌, length, Ok, Err}
use Rattle.rules.specs.Rules.{start_of, sum}
use Rattle.pool_listing.specs.Listing.{last_of}
use Rattle.core_accounts.specs.Accounts as accounts
use Rattle.core_accounts.specs.Accounts.{counted, refused}
use Rattle.calls.specs.Calls.{Answer, Counted}
use Rattle.calls.specs.declared.MemoryError.TheVariants.{InvalidEntry, InvalidRequest}
use Rattle.holder_rules.specs.States.{is_sound_lem}
use Rattle.holder_rules.specs.declared.HolderAllocator.{HolderAllocator}
use Rattle.holder_lists.specs.Whose.{is_known_lem, found}
use Rattle.holder_lists.specs.declared.Whose.{Whose}

-- an unsound state is 2, a number that is no holder's 4
unfoldable pub asked_of : ℕ → HolderAllocator → Whose → Answer
asked_of n s w = cond (is_sound_lem n s) (cond (is_known_lem w) (Ok (record { 0 = 0 })) (Err InvalidRequest)) (Err InvalidEntry)

unfoldable pub asked : Answer → Counted → Counted
asked (Ok a) answer = answer
asked (Err e) answer = refused e

-- the number of held bytes
unfoldable pub held_of : ℕ → HolderAllocator → Whose → Counted
held_of n s w = asked (asked_of n s w) (counted (sum (found w s.register.entries)))

-- ---- the free bytes and ranges: the allocator's own, where the register is sound too

unfoldable pub total_of : ℕ → HolderAllocator → Counted
total_of n s = cond (is_sound_lem n s) (accounts.total_of n s.memory) (refused InvalidEntry)

pub record FreeLists (n : ℕ) (s : HolderAllocator) (starts lasts : List ℕ) (r : Counted) (starts' lasts' : List ℕ) : Type 0 where
  pub answer : r ≡ cond (is_sound_lem n s) (accounts.listing_of n s.memory (length starts) (length lasts)) (refused InvalidEntry)
  pub starts-now : starts' ≡ cond (is_sound_lem n s) (accounts.shown_of start_of n s.memory (length starts) (length lasts) starts) starts
  pub lasts_now : lasts' ≡ cond (is_sound_lem n s) (accounts.shown_of last_of n s.memory (length starts) (length lasts) lasts) lasts
