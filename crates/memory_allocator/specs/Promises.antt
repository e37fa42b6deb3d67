-- What each call answers and leaves, for every state. n is the number of records. Assumes nothing.
use Rattle.std.specs.Prelude.{ℕ}
use Rattle.rules.specs.Rules as rules
use Rattle.pool_state.specs.declared.MemoryAllocator.{MemoryAllocator}
use Rattle.calls.specs.declared.Outcome.{Outcome}
use Rattle.core_serve.specs.Made.{judged}

abbrev pub allocate_of : ℕ → MemoryAllocator → ℕ → ℕ → Outcome
allocate_of n s z o = judged n (rules.allocate n z o) s

abbrev pub reserve_of : ℕ → MemoryAllocator → ℕ → ℕ → ℕ → Outcome
reserve_of n s a z o = judged n (rules.reserve n a z o) s

abbrev pub free_of : ℕ → MemoryAllocator → ℕ → ℕ → Outcome
free_of n s a z = judged n (rules.free n a z) s
