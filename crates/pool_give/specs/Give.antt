-- What giving asks for and leaves. Assumes nothing.
use Rattle.std.specs.Prelude.{ℕ, suc, ◌<◌, ◌≤◌, Bool, ◌&&◌, ◌⊎◌, Result}
use Rattle.rules.specs.Rules.{top, Range, start_of, Book, lower, upper, alone, full, given}
use Rattle.rules.specs.Sound.{In}
use Rattle.pool_state.specs.Shown.{Gapped}
use Rattle.pool_state.specs.State.{Holds}
use Rattle.pool_state.specs.Lent.{OfState, holds, OfStates, becomes}
use Rattle.pool_state.specs.declared.MemoryAllocator.{MemoryAllocator}
use Rattle.pool_entries.specs.Entries.{Leaves}
use Rattle.pool_entries.specs.declared.NoRecord.{NoRecord}

-- no byte from a to before t is free, and their place in the chain is between the records x and y
pub record Offers (n : ℕ) (b : Book) (s : MemoryAllocator) (x y a t : ℕ) : Type 0 where
  pub holds : Holds n b s
  pub gap : Gapped start_of b.chain a x y
  pub some_byte : a < t
  pub below : t ≤ top
  pub clear : (q : Range) → In q b.chain → (suc q.last ≤ a) ⊎ (t ≤ q.start)

-- the piece touches no free range, and no record is left for it
abbrev pub wants : ℕ → Book → ℕ → ℕ → Bool
wants n b a t = alone (lower a b) (upper t b) && full n b

abbrev pub Joins : ℕ → Book → ℕ → ℕ → Result (Unit {0}) NoRecord → MemoryAllocator → Type 0
Joins n b a t k s = Leaves n (wants n b a t) b (given n a t b) k s

-- the bytes lie there in some book, and to every such book they have been given
abbrev pub OffersSome : ℕ → ℕ → ℕ → ℕ → ℕ → OfState
OffersSome n x y a t = holds (λ s. (b : Book) × Offers n b s x y a t)

abbrev pub Given : ℕ → ℕ → ℕ → ℕ → ℕ → Result (Unit {0}) NoRecord → OfStates
Given n x y a t k = becomes (λ s s'. (b : Book) → Offers n b s x y a t → Joins n b a t k s')
