-- Where each field of the register's image stands: a head, the entries, then the allocator's image whole, of the layout f. Assumes nothing.
use Rattle.std.specs.Prelude.{ℕ, ◌+◌, ◌-◌, ◌*◌}
use Rattle.image_parts.specs.Layout.{Layout, word, length_at, length_size, image_size_lem}
use Rattle.holder_rules.specs.Register.{entries}

abbrev pub version : ℕ
version = 1

-- ---- the head: version, length of the rest

abbrev pub entries_at : ℕ
entries_at = length_at + length_size

-- ---- an entry, from its first byte: holder, first byte, last byte

abbrev pub start_at : ℕ
start_at = 1

abbrev pub last_at : ℕ
last_at = start_at + word

abbrev pub entry_size : ℕ
entry_size = last_at + word

-- ---- the whole

abbrev pub memory_at : ℕ
memory_at = entries_at + entry_size * entries

abbrev pub whole_size : Layout → ℕ
whole_size f = memory_at + image_size_lem f

-- the length field: the bytes after it
abbrev pub rest_of : Layout → ℕ
rest_of f = whole_size f - entries_at
