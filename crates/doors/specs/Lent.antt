-- What a door over a lent state promises. Assumes nothing.
use Rattle.std.specs.Prelude.{◌≡◌}
use Rattle.pool_state.specs.declared.MemoryAllocator.{MemoryAllocator}
use Rattle.calls.specs.Calls.{Answer}
use Rattle.calls.specs.declared.Outcome.{Outcome}

-- the state was m and is m', and r is returned: what the core does to m
abbrev pub Does : (MemoryAllocator → Outcome) → Answer → MemoryAllocator → MemoryAllocator → Type 0
Does core r m m' = (r ≡ (core m).answer) × (m' ≡ (core m).state)
