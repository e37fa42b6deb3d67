-- The walk's ledger, as one table: each kind of descriptor at each level, where its fields stand, and whole walks. Each line has the
-- registers, the input, the words of the memory, and what is found. proofs/Ledger.antt has the one claim about it. Assumes nothing.
use Rattle.std.specs.Prelude.{List, [], ◌∷◌, ◌++◌, cond, ℕ, eqb}
use Rattle.mapper_rules.specs.Walk.{Translation, Fault, To, walk}

pub record Word : Type 0 where
  pub address : ℕ
  pub word : ℕ

pub record Line : Type 0 where
  pub vttbr : ℕ
  pub vtcr : ℕ
  pub input : ℕ
  pub words : List Word
  pub finds : List ℕ

-- all words that are not named are 0
unfoldable pub word_at : List Word → ℕ → ℕ
word_at [] a = 0
word_at (w ∷ l) a = cond (eqb a w.address) w.word (word_at l a)

-- nothing, or the output and then the attributes, those of the low bits first
unfoldable pub found : Translation → List ℕ
found Fault = []
found (To a t) =
    a ∷ t.mem_attr ∷ t.s2ap ∷ t.sh ∷ t.af ∷ t.fnxs ∷ t.bit-50 ∷ t.dbm ∷ t.contiguous ∷ t.xn ∷ t.software ∷ t.ignored ∷ []

abbrev pub walked : Line → List ℕ
walked l = found (walk (word_at l.words) l.vttbr l.vtcr l.input)

abbrev line : ℕ → ℕ → ℕ → List Word → List ℕ → Line
line r c x ws r' = record { vttbr = r; vtcr = c; input = x; words = ws; finds = r' }

abbrev at : ℕ → ℕ → List Word → List Word
at a w l = record { address = a; word = w } ∷ l

-- what words that end in 0x7fd or 0x7ff say: MemAttr 15, S2AP 3, SH 3, AF 1
abbrev to : ℕ → List ℕ
to a = a ∷ 15 ∷ 3 ∷ 3 ∷ 1 ∷ 0 ∷ 0 ∷ 0 ∷ 0 ∷ 0 ∷ 0 ∷ 0 ∷ []

-- VTCR_EL2 with T0SZ 16 at level 0; 25 at level 1; 34 at level 2: a top table of 512 entries
abbrev level0 : ℕ
level0 = 0x90

abbrev level1 : ℕ
level1 = 0x59

abbrev level2 : ℕ
level2 = 0x22

-- one descriptor at level 0, 1 or 2, with a block or page behind it; one at level 3, behind a table of level 2
abbrev kinds : List Line
kinds =
    line 0x1000 level0 0x123 (at 0x1000 0x24fc []) []
    ∷ line 0x1000 level0 0x123 (at 0x1000 0x7fd []) []
    ∷ line 0x1000 level0 0x123 (at 0x1000 0x2402 (at 0x2000 0x400007fd [])) []
    ∷ line 0x1000 level0 0x123 (at 0x1000 0x2403 (at 0x2000 0x400007fd [])) (to 0x40000123)
    ∷ line 0x1000 level1 0x12345678 (at 0x1000 0x400007fc []) []
    ∷ line 0x1000 level1 0x12345678 (at 0x1000 0x400007fd []) (to 0x52345678)
    ∷ line 0x1000 level1 0x1234 (at 0x1000 0x2402 (at 0x2000 0x6007fd [])) []
    ∷ line 0x1000 level1 0x1234 (at 0x1000 0x2403 (at 0x2000 0x6007fd [])) (to 0x601234)
    ∷ line 0x1000 level2 0x12345 (at 0x1000 0x402007fc []) []
    ∷ line 0x1000 level2 0x12345 (at 0x1000 0x402007fd []) (to 0x40212345)
    ∷ line 0x1000 level2 0x123 (at 0x1000 0x2402 (at 0x2000 0x57ff [])) []
    ∷ line 0x1000 level2 0x123 (at 0x1000 0x2403 (at 0x2000 0x57ff [])) (to 0x5123)
    ∷ line 0x1000 level2 0x123 (at 0x1000 0x2403 (at 0x2000 0x57fc [])) []
    ∷ line 0x1000 level2 0x123 (at 0x1000 0x2403 (at 0x2000 0x57fd [])) []
    ∷ line 0x1000 level2 0x123 (at 0x1000 0x2403 (at 0x2000 0x57fe [])) []
    ∷ line 0x1000 level2 0x3123 (at 0x1000 0x2403 (at 0x2018 0x57ff [])) (to 0x5123)
    ∷ []

-- bits 49:48 are no address, of a table or of a leaf; a block's bits below its own are not read; each attribute in its place
abbrev fields : List Line
fields =
    line 0x1000 level2 0x123 (at 0x1000 0x3000000002403 (at 0x2000 0x57ff [])) (to 0x5123)
    ∷ line 0x1000 level2 0x123 (at 0x1000 0x2403 (at 0x2000 0x30000000057ff [])) (to 0x5123)
    ∷ line 0x1000 level2 0xfff (at 0x1000 0x2403 (at 0x2000 0xfffffffff7ff [])) (to 0xffffffffffff)
    ∷ line 0x1000 level1 0x123 (at 0x1000 0x7ffff7fd []) (to 0x40000123)
    ∷ line 0x1000 level1 0x123 (at 0x1000 0xffffc00007fd []) (to 0xffffc0000123)
    ∷ line 0x1000 level2 0x123 (at 0x1000 0x403ff7fd []) (to 0x40200123)
    ∷ line 0x1000 level2 0x123 (at 0x1000 0xffffffe007fd []) (to 0xffffffe00123)
    ∷ line 0x1000 level2 0x123 (at 0x1000 0x2403 (at 0x2000 0x9b54000000005997 []))
    (0x5123 ∷ 5 ∷ 2 ∷ 1 ∷ 0 ∷ 1 ∷ 1 ∷ 0 ∷ 1 ∷ 2 ∷ 6 ∷ 19 ∷ [])
    ∷ line 0x1000 level2 0x123 (at 0x1000 0x2403 (at 0x2000 0x64a800000000566b []))
    (0x5123 ∷ 10 ∷ 1 ∷ 2 ∷ 1 ∷ 0 ∷ 0 ∷ 1 ∷ 0 ∷ 1 ∷ 9 ∷ 12 ∷ [])
    ∷ []

-- four levels, by the indices 1, 2, 3, 4 and by the last ones, cut off at a reserved or invalid word; inputs past the last; two and
-- sixteen tables one behind the other; a top table of two entries, at levels 1 and 0, and the word behind them; VMID and CnP, bit 47
-- and all bits of VTCR_EL2 that are not read
abbrev wholes : List Line
wholes =
    line 0x1000 level0 0x8080604005 (at 0x1008 0x2403 (at 0x2010 0x3403 (at 0x3018 0x4403 (at 0x4020 0x57ff [])))) (to 0x5005)
    ∷ line 0x1000 level0 0xffffffffffff (at 0x1ff8 0x2403 (at 0x2ff8 0x3403 (at 0x3ff8 0x4403 (at 0x4ff8 0x57ff [])))) (to 0x5fff)
    ∷ line 0x1000 level0 0x8080604005 (at 0x1008 0x2401 (at 0x2010 0x3403 (at 0x3018 0x4403 (at 0x4020 0x57ff [])))) []
    ∷ line 0x1000 level0 0x8080604005 (at 0x1008 0x2403 (at 0x2010 0x3402 (at 0x3018 0x4403 (at 0x4020 0x57ff [])))) []
    ∷ line 0x1000 level0 0x8080604005 (at 0x1008 0x2403 (at 0x2010 0x3403 (at 0x3018 0x4403 (at 0x4020 0x57fd [])))) []
    ∷ line 0x1000 level0 0x1000000000000 (at 0x1000 0x2403 (at 0x2000 0x400007fd [])) []
    ∷ line 0x2000 0x58 0x8000000123 (at 0x3000 0x400007fd []) (to 0x40000123)
    ∷ line 0x10000 0x1e 0x3ffffffff (at 0x1fff8 0x402007fd []) (to 0x403fffff)
    ∷ line 0x1000 0x61 0x7fffffff (at 0x1008 0x400007fd (at 0x1010 0x400007fd [])) (to 0x7fffffff)
    ∷ line 0x1000 0x61 0x80000000 (at 0x1008 0x400007fd (at 0x1010 0x400007fd [])) []
    ∷ line 0x1000 0x98 0xffffffffff (at 0x1008 0x2403 (at 0x2ff8 0x400007fd [])) (to 0x7fffffff)
    ∷ line 0x1000 0x98 0x10000000000 (at 0x1010 0x2403 (at 0x2000 0x400007fd [])) []
    ∷ line 0xffff000000001001 level1 0x123 (at 0x1000 0x400007fd []) (to 0x40000123)
    ∷ line 0x800000001000 level1 0x123 (at 0x800000001000 0x400007fd []) (to 0x40000123)
    ∷ line 0x1000 0xffffffffffffff59 0x123 (at 0x1000 0x400007fd []) (to 0x40000123)
    ∷ []

abbrev pub table : List Line
table = kinds ++ (fields ++ wholes)
