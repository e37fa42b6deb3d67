-- The allocator with its register as code has it: its state, what a call answers and leaves, and the numbers of an answer. n is the number of records. Assumes nothing.
use Rattle.std.specs.Prelude.{ℕ, Bool, cond, ◌&&◌, List}
use Rattle.rules.specs.Rules.{empty}
use Rattle.memory_allocator.specs.Names as allocator
use Rattle.memory_allocator.specs.Names.{state_of, book_of}
use Rattle.memory_allocator.specs.States.{states}
use Rattle.pool_state.specs.declared.MemoryAllocator.{MemoryAllocator}
use Rattle.holder_rules.specs.Register.{entries, blanks}
use Rattle.holder_rules.specs.Holders.{Holding, both, nothing}
use Rattle.holder_rules.specs.Sound.{register_sound}
use Rattle.holder_rules.specs.declared.Entry.{Entry}
use Rattle.holder_rules.specs.declared.HolderAllocator.{HolderAllocator}

abbrev pub holding_of : HolderAllocator → Holding MemoryAllocator
holding_of s = both s.memory s.register.entries

abbrev pub with_register : Holding MemoryAllocator → HolderAllocator
with_register k = record { memory = k.memory; register = record { entries = k.register } }

-- the empty allocator, and no entry used
abbrev pub new_of : ℕ → HolderAllocator
new_of n = with_register (nothing (states n) entries)

-- the check: the allocator's own, and the register's beside the free ranges
unfoldable pub is_sound_lem : ℕ → HolderAllocator → Bool
is_sound_lem n s = allocator.is_sound_lem n s.memory && register_sound (book_of n s.memory).chain s.register.entries
