-- What each page call answers and leaves, for every state and all numbers. n is the number of records. Assumes nothing.
use Rattle.std.specs.Prelude.{ℕ, ◌*◌, ◌%◌, ◌^◌, Bool, cond, not, ◌||◌, eqb, ltb, Err}
use Rattle.pool_state.specs.declared.MemoryAllocator.{MemoryAllocator}
use Rattle.calls.specs.declared.MemoryError.{MemoryError}
use Rattle.calls.specs.declared.MemoryError.TheVariants.{InvalidEntry, InvalidRequest}
use Rattle.calls.specs.declared.Outcome.{Outcome}
use Rattle.memory_allocator.specs.Names.{is_sound_lem}
use Rattle.memory_allocator.specs.Promises.{allocate_of, free_of}

-- a page has 4096 bytes, 2 ^ 12, and all addresses together are 2 ^ 51 pages
abbrev pub page : ℕ
page = 4096

abbrev pub page_order : ℕ
page_order = 12

abbrev pub most_pages : ℕ
most_pages = 2 ^ 51

-- not a number of pages
abbrev pub bad_count : ℕ → Bool
bad_count c = eqb c 0 || ltb most_pages c

-- no page begins at the address
abbrev pub unaligned : ℕ → Bool
unaligned a = not (eqb (a % page) 0)

-- an order at least that of a page
unfoldable pub raised : ℕ → ℕ
raised o = cond (ltb o page_order) page_order o

-- where the line applies, its refusal and the state as it was; else the lines below it decide
unfoldable pub refuse : Bool → MemoryError → MemoryAllocator → Outcome → Outcome
refuse c k s below = cond c (record { answer = Err k; state = s }) below

unfoldable pub allocate_pages_of : ℕ → MemoryAllocator → ℕ → ℕ → Outcome
allocate_pages_of n s c o =
    refuse (not (is_sound_lem n s)) InvalidEntry s
    (refuse (bad_count c) InvalidRequest s
    (refuse (ltb 63 o) InvalidRequest s
    (allocate_of n s (c * page) (raised o))))

unfoldable pub free_pages_of : ℕ → MemoryAllocator → ℕ → ℕ → Outcome
free_pages_of n s a c =
    refuse (not (is_sound_lem n s)) InvalidEntry s
    (refuse (unaligned a) InvalidRequest s
    (refuse (bad_count c) InvalidRequest s
    (free_of n s a (c * page))))

-- ---- the size of the one call of the allocator that does it; 0 is refused like a bad request

unfoldable pub bytes_of_lem : ℕ → ℕ
bytes_of_lem c = cond (ltb most_pages c) 0 (c * page)

unfoldable pub freed_bytes_lem : ℕ → ℕ → ℕ
freed_bytes_lem a c = cond (eqb (a % page) 0) (bytes_of_lem c) 0
