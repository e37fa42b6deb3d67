-- Where each field stands in an image. A layout is a value: the version, the number of records, the bytes of a link, and those of a low figure after the heads. Assumes nothing.
use Rattle.std.specs.Prelude.{ℕ, ◌+◌, ◌-◌, ◌*◌, ◌^◌, ◌<◌, ◌≤◌, cond, ◌≢◌, ◌≡◌, eqb}
use Rattle.linked_lists.specs.Links.{none}
use Rattle.rules.specs.Rules.{size_lists}
use Rattle.pool_state.specs.Shown.{pool}
use Rattle.image_parts.specs.declared.layout.Layout as code

-- as the code has it
abbrev pub Layout : Type 0
Layout = code.Layout

-- of before: still read
abbrev pub version1 : Layout
version1 = record { version = 1; records = 64; link = 1; low = 0 }

abbrev pub version2 : Layout
version2 = record { version = 2; records = pool; link = 2; low = 0 }

-- with the lowest figure
abbrev pub version3 : Layout
version3 = record { version = 3; records = pool; link = 2; low = 8 }

-- what is written, and what the C calls take
abbrev pub current : Layout
current = version3

-- the layout that the first byte tells
abbrev pub layout_of : ℕ → Layout
layout_of v = cond (eqb v version1.version) version1 (cond (eqb v version2.version) version2 current)

-- the bytes of an address, of the total and of a low figure
abbrev pub word : ℕ
word = 8

-- what stands for no record: the greatest number of a link's bytes
abbrev pub no_link : Layout → ℕ
no_link f = 256 ^ f.link - 1

-- ---- the head: version, length of the rest, total, first, heads, low figure

abbrev pub length_at : ℕ
length_at = 1

abbrev pub length_size : ℕ
length_size = 4

abbrev pub total_at : ℕ
total_at = length_at + length_size

abbrev pub first_at : ℕ
first_at = total_at + word

abbrev pub heads_at : Layout → ℕ
heads_at f = first_at + f.link

abbrev pub low_at : Layout → ℕ
low_at f = heads_at f + f.link * size_lists

abbrev pub records_at_lem : Layout → ℕ
records_at_lem f = low_at f + f.low

-- ---- a record, from its first byte: start, end, enabled, and its four links

abbrev pub end_at : ℕ
end_at = word

abbrev pub enabled_at : ℕ
enabled_at = end_at + word

abbrev pub links_at : ℕ
links_at = enabled_at + 1

abbrev pub record_size_lem : Layout → ℕ
record_size_lem f = links_at + f.link * 4

-- the first byte of record i
abbrev pub record_at : Layout → ℕ → ℕ
record_at f i = records_at_lem f + record_size_lem f * i

-- ---- the whole

abbrev pub image_size_lem : Layout → ℕ
image_size_lem f = records_at_lem f + record_size_lem f * f.records

-- the length field: the bytes after it
abbrev pub rest_size : Layout → ℕ
rest_size f = image_size_lem f - total_at

-- ---- its fields can hold its own numbers: the version, the length of the rest, the number of each record in a link's bytes, and the low figure, if it has one

pub record Lawful (f : Layout) : Type 0 where
  pub versions : f.version < 256 ^ length_at
  pub rests : rest_size f < 256 ^ length_size
  pub records : f.records ≤ no_link f
  pub links : no_link f ≤ none
  pub lows : f.low ≤ word
  pub whole-low : f.low ≢ 0 → f.low ≡ word

-- and the arrays of a state have room for its records
pub record Housed (f : Layout) : Type 0 where
  pub lawful : Lawful f
  pub room : f.records ≤ pool

-- it has a low figure too, so that an image tells all of an account
pub record Figured (f : Layout) : Type 0 where
  pub lawful : Lawful f
  pub figured : f.low ≢ 0
