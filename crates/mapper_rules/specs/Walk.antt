-- The stage 2 walk of the Arm Architecture Reference Manual (VMSAv8-64, 4 KiB granule, VTCR_EL2.DS = 0): which output, with which
-- attributes, an input address is translated to. Sizes of physical addresses (VTCR_EL2.PS) aside. A height is the number of levels
-- below: 0 at level 3, 3 at level 0. Assumes nothing.
use Rattle.std.specs.Prelude.{Bool, cond, ◌&&◌, ℕ, zero, suc, ◌+◌, ◌-◌, ◌*◌, ◌/◌, ◌%◌, ◌^◌, leb, ltb, eqb}

-- n bits of the word d, from bit i on
abbrev pub bits : ℕ → ℕ → ℕ → ℕ
bits i n d = d / 2 ^ i % 2 ^ n

-- the bytes of input that one descriptor translates
unfoldable pub span : ℕ → ℕ
span h = 2 ^ (12 + 9 * h)

-- what a descriptor says of memory, and the bits 50 and 63:59, which the walk ignores
pub record Attributes : Type 0 where
  pub mem_attr : ℕ
  pub s2ap : ℕ
  pub sh : ℕ
  pub af : ℕ
  pub fnxs : ℕ
  pub dbm : ℕ
  pub contiguous : ℕ
  pub xn : ℕ
  pub software : ℕ
  pub bit-50 : ℕ
  pub ignored : ℕ

unfoldable pub attributes_of : ℕ → Attributes
attributes_of d = record {
  mem_attr = bits 2 4 d;
  s2ap = bits 6 2 d;
  sh = bits 8 2 d;
  af = bits 10 1 d;
  fnxs = bits 11 1 d;
  dbm = bits 51 1 d;
  contiguous = bits 52 1 d;
  xn = bits 53 2 d;
  software = bits 55 4 d;
  bit-50 = bits 50 1 d;
  ignored = bits 59 5 d;
}

pub data Translation : Type 0 where
  Fault : Translation
  To : ℕ → Attributes → Translation

-- bits 1:0 are 11: a table, or at level 3 a page; 01: a block at levels 1 and 2, elsewhere reserved. All others are invalid
abbrev pub is_table_lem : ℕ → Bool
is_table_lem d = eqb (d % 4) 3

abbrev pub is_block_lem : ℕ → ℕ → Bool
is_block_lem h d = eqb (d % 4) 1 && (leb 1 h && leb h 2)

-- bits 47:12 of a table descriptor; of a leaf those above the input's own bits, which stay
abbrev pub table_at : ℕ → ℕ
table_at d = bits 12 36 d * 4096

unfoldable pub leaf : ℕ → ℕ → ℕ → Translation
leaf h d x = To (bits (12 + 9 * h) (36 - 9 * h) d * span h + x % span h) (attributes_of d)

-- the input x from the descriptor d on, at height h; mem has the word at each address
unfoldable pub walk_from : (ℕ → ℕ) → ℕ → ℕ → ℕ → Translation
walk_from mem zero d x = cond (is_table_lem d) (leaf 0 d x) Fault
walk_from mem (suc h) d x =
    cond (is_table_lem d) (walk_from mem h (mem (table_at d + 8 * (x / span h % 512))) x) (cond (is_block_lem (suc h) d) (leaf (suc h) d x) Fault)

-- ---- the registers: T0SZ and SL0 of VTCR_EL2, BADDR of VTTBR_EL2

abbrev pub t0sz : ℕ → ℕ
t0sz vtcr = vtcr % 2 ^ 6

-- 0 for level 2, 1 for level 1, 2 for level 0; with 3, for level 3, nothing is walked
abbrev pub sl0 : ℕ → ℕ
sl0 vtcr = bits 6 2 vtcr

-- inputs are the addresses below it
abbrev pub input_top : ℕ → ℕ
input_top vtcr = 2 ^ (64 - t0sz vtcr)

abbrev pub top_height : ℕ → ℕ
top_height vtcr = suc (sl0 vtcr)

abbrev pub top_table : ℕ → ℕ
top_table vttbr = bits 1 47 vttbr * 2

-- the first index takes every bit that is left: tables one behind the other are one table with more entries
unfoldable pub walk : (ℕ → ℕ) → ℕ → ℕ → ℕ → Translation
walk mem vttbr vtcr x =
    cond (ltb x (input_top vtcr)) (walk_from mem (top_height vtcr) (mem (top_table vttbr + 8 * (x / span (top_height vtcr)))) x) Fault
