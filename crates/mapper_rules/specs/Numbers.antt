-- Which numbers a map refuses, line by line as request T-09 has them; sums are of numbers, and do not wrap. Assumes nothing.
use Rattle.std.specs.Prelude.{Bool, true, cond, not, ◌||◌, ℕ, ◌+◌, ◌*◌, ◌/◌, ◌%◌, ◌^◌, ltb, eqb}
use Rattle.mapper_rules.specs.Walk.{span, t0sz, sl0, input_top, top_height, top_table}

-- no page begins there
abbrev pub unaligned : ℕ → Bool
unaligned a = not (eqb (a % 4096) 0)

abbrev pub outside : ℕ → ℕ → ℕ → Bool
outside low high t = ltb t low || ltb high t

-- T0SZ outside 16 to 24 at level 0, 21 to 33 at level 1, 30 to 39 at level 2; any at level 3
unfoldable pub bad_level_lem : ℕ → ℕ → Bool
bad_level_lem sl t =
    cond (eqb sl 2) (outside 16 24 t)
    (cond (eqb sl 1) (outside 21 33 t)
    (cond (eqb sl 0) (outside 30 39 t) true))

-- how many entries of the top table the inputs have, and the whole size of that table: its entries, and a page at least
abbrev pub top_entries : ℕ → ℕ
top_entries vtcr = input_top vtcr / span (top_height vtcr)

unfoldable pub top_bytes_lem : ℕ → ℕ
top_bytes_lem vtcr = cond (ltb (8 * top_entries vtcr) 4096) 4096 (8 * top_entries vtcr)

-- no output ends above it
abbrev pub output_top : ℕ
output_top = 2 ^ 48

unfoldable pub bad_registers_lem : ℕ → ℕ → Bool
bad_registers_lem vttbr vtcr = bad_level_lem (sl0 vtcr) (t0sz vtcr) || not (eqb (top_table vttbr % top_bytes_lem vtcr) 0)

unfoldable pub bad_range_lem : ℕ → ℕ → ℕ → ℕ → Bool
bad_range_lem vtcr output input size =
    eqb size 0
    || (unaligned size
    || (unaligned output
    || (unaligned input
    || (ltb output_top (output + size)
    || ltb (input_top vtcr) (input + size)))))

-- base is the address of the arena's first byte
unfoldable pub bad_numbers_lem : ℕ → ℕ → ℕ → ℕ → ℕ → ℕ → Bool
bad_numbers_lem base vttbr vtcr output input size = bad_registers_lem vttbr vtcr || (unaligned base || bad_range_lem vtcr output input size)
