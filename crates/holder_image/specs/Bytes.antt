-- The register in bytes, before the allocator's image. Assumes nothing.
use Rattle.std.specs.Prelude.{ℕ, ◌+◌, ◌*◌, Bool, ◌&&◌, List, ◌++◌, eqb, length, get_or, drop}
use Rattle.bytes_be.specs.Numbers.{be}
use Rattle.linked_lists.specs.Links.{tab}
use Rattle.image_parts.specs.Layout.{Layout, word, length_at, length_size}
use Rattle.image_parts.specs.Read.{number_in}
use Rattle.image_parts.specs.Written.{joined}
use Rattle.holder_rules.specs.Register.{entries, entry, blank}
use Rattle.holder_rules.specs.Holders.{Holding, both}
use Rattle.holder_rules.specs.declared.Entry.{Entry}
use Rattle.holder_image.specs.Layout.{version, entries_at, start_at, last_at, entry_size, memory_at, whole_size, rest_of}

-- ---- written

-- an unused entry is all zero bytes
unfoldable pub entry_bytes : Entry → List ℕ
entry_bytes e = be start_at e.holder.0 ++ (be word e.start.0 ++ be word e.last.0)

unfoldable pub entries_bytes : List Entry → List ℕ
entries_bytes r = joined entries 0 (λ i. entry_bytes (get_or r i blank))

unfoldable pub front_bytes_lem : Layout → List Entry → List ℕ
front_bytes_lem f r = be length_at version ++ (be length_size (rest_of f) ++ entries_bytes r)

-- a register above an allocator whose image is m
unfoldable pub bytes_of_lem : Layout → Holding (List ℕ) → List ℕ
bytes_of_lem f k = front_bytes_lem f k.register ++ k.memory

-- ---- read

-- in its own bytes
abbrev pub entry_in_lem : List ℕ → Entry
entry_in_lem l = entry (number_in l 0 start_at) (number_in l start_at word) (number_in l last_at word)

-- the entry i of an image
abbrev pub entry_at_lem : List ℕ → ℕ → Entry
entry_at_lem l i = entry (number_in l (entries_at + entry_size * i) start_at) (number_in l (entries_at + start_at + entry_size * i) word) (number_in l (entries_at + last_at + entry_size * i) word)

unfoldable pub register_in_lem : List ℕ → List Entry
register_in_lem l = tab entries 0 (entry_at_lem l)

-- the allocator's image
abbrev pub memory_in : List ℕ → List ℕ
memory_in l = drop memory_at l

abbrev pub holding_in : List ℕ → Holding (List ℕ)
holding_in l = both (memory_in l) (register_in_lem l)

-- the length, the version and the length field are right
unfoldable pub headed : Layout → List ℕ → Bool
headed f l = eqb (length l) (whole_size f) && (eqb (number_in l 0 length_at) version && eqb (number_in l length_at length_size) (rest_of f))
