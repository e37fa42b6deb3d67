-- The total and the listing of a state. n is the number of records. Assumes nothing.
use Rattle.std.specs.Prelude.{ℕ, cond, Option, Some, None, List, ◌≡◌, length, Ok, Err}
use Rattle.rules.specs.Rules as rules
use Rattle.rules.specs.Rules.{Range, start_of}
use Rattle.pool_state.specs.Sound.{book_of}
use Rattle.pool_state.specs.declared.MemoryAllocator.{MemoryAllocator}
use Rattle.check_state.specs.IsSound.{is_sound_lem}
use Rattle.pool_listing.specs.Listing.{last_of, listed_of, shown}
use Rattle.calls.specs.Calls.{Answer, Counted}
use Rattle.calls.specs.declared.MemoryError.{MemoryError}
use Rattle.calls.specs.declared.MemoryError.TheVariants.{InvalidEntry, InvalidRequest}

abbrev pub counted : ℕ → Counted
counted v = Ok v

-- a refusal has no value
abbrev pub refused : MemoryError → Counted
refused e = Err e

-- the answer that goes with it, and the number; 0 where it is refused
abbrev pub answer_in : Counted → Answer
answer_in (Ok v) = Ok (record { 0 = 0 })
answer_in (Err e) = Err e

abbrev pub value_of : Counted → ℕ
value_of (Ok v) = v
value_of (Err e) = 0

unfoldable pub total_of : ℕ → MemoryAllocator → Counted
total_of n s = cond (is_sound_lem n s) (counted (rules.total (book_of n s))) (refused InvalidEntry)

-- the number of ranges, if both slices have room for as many
abbrev pub listed_answer : Option ℕ → Counted
listed_answer (Some c) = counted c
listed_answer None = refused InvalidRequest

unfoldable pub listing_of : ℕ → MemoryAllocator → ℕ → ℕ → Counted
listing_of n s m k = cond (is_sound_lem n s) (listed_answer (listed_of (book_of n s).chain m k)) (refused InvalidEntry)

-- what a slice then holds: the ranges' figures in its first places, and the old contents past them, or everywhere after a refusal
unfoldable pub shown_of : (Range → ℕ) → ℕ → MemoryAllocator → ℕ → ℕ → List ℕ → List ℕ
shown_of key n s m k old = cond (is_sound_lem n s) (shown key (book_of n s).chain m k old) old

pub record Lists (n : ℕ) (s : MemoryAllocator) (starts lasts : List ℕ) (r : Counted) (starts' lasts' : List ℕ) : Type 0 where
  pub answer : r ≡ listing_of n s (length starts) (length lasts)
  pub starts-now : starts' ≡ shown_of start_of n s (length starts) (length lasts) starts
  pub lasts_now : lasts' ≡ shown_of last_of n s (length starts) (length lasts) lasts
