-- The three calls of `doors` on a state that is lent in place, as an engine: what they answer and leave behind the reference, by the definitions that their
-- contracts cite. `crates/promises/proofs/Lent.antt` shows each sentence of the record. n is the number of records. Assumes nothing.
use Rattle.std.specs.Prelude.{ℕ, ◌≡◌}
use Rattle.rules.specs.Rules.{empty, Call, Free, Allocate, Reserve}
use Rattle.rules_engine.specs.Engine.{Engine}
use Rattle.rules_engine.specs.Demand.{Demand}
use Rattle.pool_state.specs.State.{state_of}
use Rattle.pool_state.specs.Sound.{book_of, SoundState}
use Rattle.pool_state.specs.declared.MemoryAllocator.{MemoryAllocator}
use Rattle.calls.specs.Calls.{voucher_of}
use Rattle.calls.specs.declared.Outcome.{Outcome}
use Rattle.core_serve.specs.Made.{made}
use Rattle.memory_allocator.specs.Promises.{allocate_of, reserve_of, free_of}

abbrev pub door_of : ℕ → MemoryAllocator → Call → Outcome
door_of n m (Free a z) = free_of n m a z
door_of n m (Allocate z o) = allocate_of n m z o
door_of n m (Reserve a z o) = reserve_of n m a z o

abbrev pub lent : ℕ → Engine
lent n = record {
  State = MemoryAllocator;
  new = state_of n empty;
  answer = λ c m. voucher_of c (door_of n m c).answer;
  next = λ c m. (door_of n m c).state;
  book = book_of n;
  total = λ m. m.free_size;
  Sound = SoundState n;
}

pub record LentPromises (n : ℕ) : Type 0 where
  -- a door answers, and leaves behind the reference, what the call by value answers and leaves
  pub same-call : (m : MemoryAllocator) (c : Call) → door_of n m c ≡ made n m c
  -- demand 3
  pub books-close : Demand (lent n)
