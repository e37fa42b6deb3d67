-- The check of a state: its records, its chain and its size lists. n is the number of records. Assumes nothing.
use Rattle.std.specs.Prelude.{ℕ, Bool, ◌&&◌, Option}
use Rattle.rules.specs.Rules.{size_lists}
use Rattle.pool_state.specs.declared.MemoryAllocator.{MemoryAllocator}
use Rattle.check_links.specs.Walk.{onward}
use Rattle.check_records.specs.Records.{records}
use Rattle.check_links.specs.Walks.{chain_ok_lem, lists_ok_lem}

abbrev pub records_in : ℕ → MemoryAllocator → Option ℕ
records_in n s = records n s.start s.end s.enabled s.previous s.next s.list_prev s.list_next

abbrev pub chain_in : ℕ → MemoryAllocator → ℕ → Bool
chain_in n s = chain_ok_lem n s.free_size s.first_entry.0 s.start s.end s.enabled s.previous s.next

abbrev pub lists_in : ℕ → MemoryAllocator → ℕ → ℕ → ℕ → Bool
lists_in n s = lists_ok_lem n s.free_list s.start s.end s.enabled s.list_prev s.list_next

-- the chain has the records in use, and so have the lists
unfoldable pub is_sound_lem : ℕ → MemoryAllocator → Bool
is_sound_lem n s = onward (λ c. chain_in n s c && lists_in n s size_lists 0 c) (records_in n s)
