-- What taking asks for and leaves. Assumes nothing.
use Rattle.std.specs.Prelude.{ℕ, suc, ◌<◌, ◌≤◌, Bool, ◌&&◌, ◌≡◌, Result}
use Rattle.rules.specs.Rules.{Range, Book, taken, full, splits}
use Rattle.rules.specs.Sound.{In}
use Rattle.pool_state.specs.State.{Holds}
use Rattle.pool_state.specs.Lent.{OfState, holds, OfStates, becomes}
use Rattle.pool_state.specs.declared.MemoryAllocator.{MemoryAllocator}
use Rattle.pool_entries.specs.Entries.{Leaves}
use Rattle.pool_entries.specs.declared.NoRecord.{NoRecord}

-- the bytes from a to before t are in the range r, of record i
pub record Asks (n : ℕ) (b : Book) (s : MemoryAllocator) (i a t : ℕ) (r : Range) : Type 0 where
  pub holds : Holds n b s
  pub member : In r b.chain
  pub number : i ≡ r.number
  pub from : r.start ≤ a
  pub some_byte : a < t
  pub to : t ≤ suc r.last

-- no record is left for the second piece
abbrev pub refuses : ℕ → Book → Range → ℕ → ℕ → Bool
refuses n b r a t = splits a t r && full n b

abbrev pub Takes : ℕ → Book → Range → ℕ → ℕ → Result (Unit {0}) NoRecord → MemoryAllocator → Type 0
Takes n b r a t k s = Leaves n (refuses n b r a t) b (taken n r a t b) k s

-- some range of some book has the bytes, and out of every such range they have been taken
abbrev pub AsksSome : ℕ → ℕ → ℕ → ℕ → OfState
AsksSome n i a t = holds (λ s. (b : Book) × (r : Range) × Asks n b s i a t r)

abbrev pub Taken : ℕ → ℕ → ℕ → ℕ → Result (Unit {0}) NoRecord → OfStates
Taken n i a t k = becomes (λ s s'. (b : Book) (r : Range) → Asks n b s i a t r → Takes n b r a t k s')
