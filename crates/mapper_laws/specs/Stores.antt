-- The mapping as stores into words, in the order of MiniVisor's module. Assumes nothing.
use Rattle.std.specs.Prelude.{cond, ℕ, zero, suc, ◌+◌, ◌*◌, ◌/◌, eqb}
use Rattle.mapper_rules.specs.Walk.{span, is_table_lem}
use Rattle.mapper_laws.specs.declared.Mapping.{Mapping}
use Rattle.mapper_laws.specs.Mapping.{meets, opens, leaf_word_lem, table_word_lem}

-- the words, by their numbers, and how many pages have been handed out
pub record Stored : Type 0 where
  pub word : ℕ → ℕ
  pub handed : ℕ

abbrev pub put : ℕ → ℕ → Stored → Stored
put i v s = record { word = λ w. cond (eqb w i) v (s.word w); handed = s.handed }

-- a page is handed out, and its words are cleared
abbrev pub hand : ℕ → Stored → Stored
hand p s = record { word = λ w. cond (eqb (w / 512) p) 0 (s.word w); handed = suc s.handed }

-- f 0, then f 1, .. n of them
unfoldable pub steps : ℕ → (ℕ → Stored → Stored) → Stored → Stored
steps zero f s = s
steps (suc n) f s = f n (steps n f s)

-- the entry in the word i, at height h, whose inputs begin at e; at is the page of each table
unfoldable pub store : Mapping → (ℕ → ℕ) → (ℕ → ℕ) → ℕ → ℕ → ℕ → Stored → Stored
store q page at zero e i s = cond (meets q 0 e) (put i (leaf_word_lem q 0 e) s) s
store q page at (suc h) e i s =
    cond (opens q (suc h) e)
    (cond (is_table_lem (s.word i))
    (steps 512 (λ j. store q page at h (e + j * span h) (512 * at (s.word i) + j)) s)
    (steps 512 (λ j. store q page at h (e + j * span h) (512 * at (table_word_lem (page s.handed)) + j))
    (put i (table_word_lem (page s.handed)) (hand (at (table_word_lem (page s.handed))) s))))
    (cond (meets q (suc h) e) (put i (leaf_word_lem q (suc h) e) s) s)
