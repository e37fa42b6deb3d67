-- The allocator by value, as an engine: what a call answers and leaves, and what is read off a state. n is the number of records. Assumes nothing.
use Rattle.std.specs.Prelude.{ℕ}
use Rattle.rules.specs.Rules.{empty}
use Rattle.rules_engine.specs.Engine.{Engine}
use Rattle.pool_state.specs.State.{state_of}
use Rattle.pool_state.specs.Sound.{book_of, SoundState}
use Rattle.pool_state.specs.declared.MemoryAllocator.{MemoryAllocator}
use Rattle.calls.specs.Calls.{voucher_of}
use Rattle.core_serve.specs.Made.{made}

abbrev pub states : ℕ → Engine
states n = record {
  State = MemoryAllocator;
  new = state_of n empty;
  answer = λ c s. voucher_of c (made n s c).answer;
  next = λ c s. (made n s c).state;
  book = book_of n;
  total = λ s. s.free_size;
  Sound = SoundState n;
}
