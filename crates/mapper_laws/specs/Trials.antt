-- Maps of some words, as one table: the registers, the words before, the pages to be handed out, what is mapped, and words afterwards.
-- proofs/Trials.antt has the one claim about it. Assumes nothing.
use Rattle.std.specs.Prelude.{true, false, List, [], ◌∷◌, map, ℕ, ◌+◌, ◌*◌, ◌/◌}
use Rattle.mapper_rules.specs.Ledger.{Word, word_at}
use Rattle.mapper_laws.specs.declared.Mapping.{Mapping}
use Rattle.mapper_laws.specs.Mapping.{mapping_of}
use Rattle.mapper_laws.specs.Promise.{after}

pub record Trial : Type 0 where
  pub vtcr : ℕ
  pub before : List Word
  pub mapping : Mapping
  pub handed : ℕ
  pub afterwards : List Word

-- the top table is at 0x40000000, and pages come from 0x40008000 on
abbrev pub words : Trial → ℕ → ℕ
words t w = word_at t.before (8 * w)

-- the pages handed out, and the words that are looked at
unfoldable pub tried : Trial → List ℕ
tried t =
    (after t.mapping (words t) 0x40000000 t.vtcr (λ k. 0x40008000 + k * 4096)).handed
    ∷ map (λ (w : Word). (after t.mapping (words t) 0x40000000 t.vtcr (λ k. 0x40008000 + k * 4096)).word (w.address / 8)) t.afterwards

abbrev pub expected : Trial → List ℕ
expected t = t.handed ∷ map (λ (w : Word). w.word) t.afterwards

abbrev at : ℕ → ℕ → List Word → List Word
at a w l = record { address = a; word = w } ∷ l

abbrev trial : ℕ → List Word → Mapping → ℕ → List Word → Trial
trial c b q n a = record { vtcr = c; before = b; mapping = q; handed = n; afterwards = a }

-- T0SZ 32 at level 1 and 39 at level 2: 4 and 16 entries. A block, also where a table was, which is lost; a fresh table, cleared; a table that is there
-- and keeps its word; a block of no permission; an output that is not aligned, in pages; two fresh tables, the upper one first; the second of two
-- top tables (T0SZ 24 at level 1); a reserved word at level 0 (T0SZ 24), which gives way
abbrev pub trials : List Trial
trials =
    trial 0x60 [] (mapping_of 0 0x40000000 0x40000000 true true) 0 (at 0x40000000 0 (at 0x40000008 0x7fd (at 0x40000010 0 [])))
    ∷ trial 0x60 (at 0x40000000 0x40001403 []) (mapping_of 0 0 0x40000000 true true) 0 (at 0x40000000 0x7fd [])
    ∷ trial 0x27 (at 0x40008000 5 (at 0x40008010 6 (at 0x40009000 7 []))) (mapping_of 0x80000000 0x1000 0x1000 true false) 1
    (at 0x40000000 0x40008403 (at 0x40000008 0 (at 0x40008000 0 (at 0x40008008 0x8000077f (at 0x40008010 0 (at 0x40009000 7 []))))))
    ∷ trial 0x27 (at 0x40000000 0x1000040001403 (at 0x40001000 5 [])) (mapping_of 0x80000000 0x1000 0x1000 false true) 0
    (at 0x40000000 0x1000040001403 (at 0x40001000 5 (at 0x40001008 0x800007bf [])))
    ∷ trial 0x27 [] (mapping_of 0x400000 0x200000 0x200000 false false) 0 (at 0x40000008 0x40073d [])
    ∷ trial 0x27 [] (mapping_of 0x1000 0 0x200000 true true) 1 (at 0x40000000 0x40008403 (at 0x40008000 0x17ff (at 0x40008ff8 0x2007ff [])))
    ∷ trial 0x60 [] (mapping_of 0x80000000 0x201000 0x1000 true true) 2
    (at 0x40000000 0x40008403 (at 0x40008008 0x40009403 (at 0x40009000 0 (at 0x40009008 0x800007ff []))))
    ∷ trial 0x58 [] (mapping_of 0 0x8000000000 0x40000000 true true) 0 (at 0x40000000 0 (at 0x40001000 0x7fd []))
    ∷ trial 0x98 (at 0x40000000 0x7fd []) (mapping_of 0 0 0x40000000 true true) 1 (at 0x40000000 0x40008403 (at 0x40008000 0x7fd (at 0x40008008 0 [])))
    ∷ []
