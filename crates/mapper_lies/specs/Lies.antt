-- What must lie in an arena, and where: all free bytes, and all tables, none of them twice or on free bytes. The arena's first byte has the
-- address base, and no table word names a byte from 2 ^ 48 on. Assumes nothing.
use Rattle.std.specs.Prelude.{Bool, cond, ◌&&◌, List, map, ℕ, ◌+◌, ◌*◌, ◌/◌, leb, ltb, length}
use Rattle.rules.specs.Rules.{Range, start_of}
use Rattle.pool_listing.specs.Listing.{last_of}
use Rattle.image_parts.specs.Layout.{current}
use Rattle.image_reading.specs.Reading.{readable}
use Rattle.mapper_rules.specs.Walk.{top_height, top_table}
use Rattle.mapper_rules.specs.Numbers.{top_entries, top_bytes_lem, output_top}
use Rattle.mapper_free.specs.Free.{chain_in, all_inside, touches}
use Rattle.mapper_tables.specs.declared.Top.{Top}
use Rattle.mapper_tables.specs.Apart.{apart}
use Rattle.mapper_tables.specs.Reached.{reached_in}

-- the top table that the registers name
abbrev pub top_of : ℕ → ℕ → Top
top_of vttbr vtcr =
    record { page = top_table vttbr / 4096; pages = top_bytes_lem vtcr / 4096; word = top_table vttbr / 8; entries = top_entries vtcr; height = top_height vtcr }

-- the first byte after n words, or 2 ^ 48
unfoldable pub top_byte_lem : ℕ → ℕ → ℕ
top_byte_lem base n = cond (ltb output_top (base + 8 * n)) output_top (base + 8 * n)

-- the ranges of c lie among the bytes from base to before high
unfoldable pub free_lies : ℕ → ℕ → List Range → Bool
free_lies base high c = all_inside base high (map start_of c) (map last_of c) (length c)

-- so do the tables, each of them once, and on no byte of a range
unfoldable pub tables_lie : ℕ → ℕ → List Range → Top → List ℕ → Bool
tables_lie base high c t A = apart (base / 4096) (high / 4096) (touches (map start_of c) (map last_of c) (length c)) (reached_in (base / 8) A t)

-- the bytes l are the image of a sound state, and both lie right
unfoldable pub lies : ℕ → Top → List ℕ → List ℕ → Bool
lies base t l A =
    leb base output_top
    && (readable current l
    && (free_lies base (top_byte_lem base (length A)) (chain_in l)
    && tables_lie base (top_byte_lem base (length A)) (chain_in l) t A))
