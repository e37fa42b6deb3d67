-- What a record that comes into use or goes out of it asks for, and how a step ends that may want one. Assumes nothing.
use Rattle.std.specs.Prelude.{ℕ, Bool, true, false, cond, ◌≡◌, ltb, Option, Some, None, Result, Ok, Err}
use Rattle.linked_lists.specs.Links.{pick}
use Rattle.rules.specs.Rules.{Range, start_of, Book, remove, put}
use Rattle.rules.specs.Sound.{In, Good, Other, Ahead, Apart}
use Rattle.pool_state.specs.Shown.{Gapped, Shape}
use Rattle.pool_state.specs.State.{Holds}
use Rattle.pool_state.specs.Lent.{OfState, holds, OfStates, becomes}
use Rattle.pool_state.specs.declared.MemoryAllocator.{MemoryAllocator}
use Rattle.pool_state.specs.declared.RecordIndex.{RecordIndex}
use Rattle.pool_entries.specs.declared.NoRecord.{NoRecord}

-- the record i, if it is one of n
abbrev pub slot_of : ℕ → ℕ → Option RecordIndex
slot_of n i = pick (ltb i n) (Some (record { 0 = i })) None

-- the range q may stand in r's record and place
pub record Replaces (n : ℕ) (b : Book) (r q : Range) : Type 0 where
  pub member : In r b.chain
  pub number : r.number ≡ q.number
  pub good : Good n q
  pub low : (p : Range) → In p b.chain → Ahead p r → Ahead p q
  pub high : (p : Range) → In p b.chain → Ahead r p → Ahead q p

-- the range q, whose record is unused, may go into the book, between the records x and y of the chain
pub record Inserts (n : ℕ) (b : Book) (s : MemoryAllocator) (x y : ℕ) (q : Range) : Type 0 where
  pub shape : Shape n b s
  pub good : Good n q
  pub apart : (p : Range) → In p b.chain → Other q p × Apart q p
  pub gap : Gapped start_of b.chain q.start x y

-- r goes out of the book
pub record Drops (n : ℕ) (b : Book) (s : MemoryAllocator) (i : ℕ) (r : Range) : Type 0 where
  pub shape : Shape n b s
  pub member : In r b.chain
  pub number : i ≡ r.number

-- the range of record i may go out of some book, and it has gone out of every such book; the total stays
abbrev pub DropsSome : ℕ → ℕ → OfState
DropsSome n i = holds (λ s. (b : Book) × (r : Range) × Drops n b s i r)

abbrev pub Dropped : ℕ → ℕ → OfStates
Dropped n i = becomes (λ s s'. (s'.free_size ≡ s.free_size) × ((b : Book) (r : Range) → Drops n b s i r → Shape n (remove r b) s'))

-- q may go into some book, between the records x and y of the chain, and it has gone into every such book; the total stays
abbrev pub InsertsSome : ℕ → ℕ → ℕ → Range → OfState
InsertsSome n x y q = holds (λ s. (b : Book) × Inserts n b s x y q)

abbrev pub Inserted : ℕ → ℕ → ℕ → Range → OfStates
Inserted n x y q = becomes (λ s s'. (s'.free_size ≡ s.free_size) × ((b : Book) → Inserts n b s x y q → Shape n (put q b) s'))

-- ---- how a step ends

-- by whether it wants a record and there is none
abbrev pub moving_of : Bool → Result (Unit {0}) NoRecord
moving_of true = Err (record {})
moving_of false = Ok tt

-- the step that makes b' of the book b ended so, and the state holds what it left
pub record Leaves (n : ℕ) (wants : Bool) (b b' : Book) (k : Result (Unit {0}) NoRecord) (s : MemoryAllocator) : Type 0 where
  pub says : k ≡ moving_of wants
  pub leaves : Holds n (cond wants b b') s
