-- Numbers of maps, as one table: which are refused. proofs/Levels.antt has the one claim about it. Assumes nothing.
use Rattle.std.specs.Prelude.{Bool, true, false, List, [], ◌∷◌, ℕ}
use Rattle.mapper_rules.specs.Numbers.{bad_numbers_lem}

pub record Ask : Type 0 where
  pub base : ℕ
  pub vttbr : ℕ
  pub vtcr : ℕ
  pub output : ℕ
  pub input : ℕ
  pub size : ℕ
  pub refused : Bool

abbrev pub judged : Ask → Bool
judged a = bad_numbers_lem a.base a.vttbr a.vtcr a.output a.input a.size

-- the arena and its top table at 0x40000000, T0SZ 32 at level 1: inputs below 4 GiB
abbrev range : ℕ → ℕ → ℕ → Bool → Ask
range o i z r = record { base = 0x40000000; vttbr = 0x40000000; vtcr = 0x60; output = o; input = i; size = z; refused = r }

abbrev registers : ℕ → ℕ → Bool → Ask
registers v c r = record { base = 0x40000000; vttbr = v; vtcr = c; output = 0x80000000; input = 0; size = 0x1000; refused = r }

abbrev bases : ℕ → Bool → Ask
bases b r = record { base = b; vttbr = 0x40000000; vtcr = 0x60; output = 0x80000000; input = 0; size = 0x1000; refused = r }

-- size 0, and what is no multiple of a page; outputs up to 2 ^ 48 and inputs up to 4 GiB; sums past 2 ^ 64; the top table's whole size, with 2 and
-- with 16 tables, and with two entries; CnP, VMID and bit 47; level 3
abbrev pub asks : List Ask
asks =
    range 0x80000000 0 0x1000 false
    ∷ range 0x80000000 0 0 true
    ∷ range 0x80000000 0 0x800 true
    ∷ range 0x80000800 0 0x1000 true
    ∷ range 0x80000000 0x800 0x1000 true
    ∷ bases 0x40000800 true
    ∷ bases 0x50000000 false
    ∷ range 0xfffffffff000 0 0x1000 false
    ∷ range 0xfffffffff000 0 0x2000 true
    ∷ range 0x1000000000000 0 0x1000 true
    ∷ range 0xfffffffffffff000 0 0x1000 true
    ∷ range 0x1000 0 0xfffffffffffff000 true
    ∷ range 0x80000000 0xfffff000 0x1000 false
    ∷ range 0x80000000 0 0x100000000 false
    ∷ range 0x80000000 0xfffff000 0x2000 true
    ∷ range 0x80000000 0x100000000 0x1000 true
    ∷ range 0x80000000 0xfffffffffffff000 0x1000 true
    ∷ registers 0x40001000 0x58 true
    ∷ registers 0x40002000 0x58 false
    ∷ registers 0x40008000 0x1e true
    ∷ registers 0x40010000 0x1e false
    ∷ registers 0x40000800 0x61 true
    ∷ registers 0x40001000 0x61 false
    ∷ registers 0xffff000040000001 0x60 false
    ∷ registers 0x800000000000 0x60 false
    ∷ registers 0x40000000 0xe0 true
    ∷ []
