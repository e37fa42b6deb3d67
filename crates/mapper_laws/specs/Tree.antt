-- Entries of tables with all that they lead to. A word has a number; page p has the words 512 * p to 512 * p + 511. Assumes nothing.
use Rattle.std.specs.Prelude.{Bool, false, cond, ◌||◌, ◌≡◌, ◌⊎◌, List, [], ◌∷◌, ◌++◌, ℕ, zero, suc, ◌+◌, ◌*◌, ◌/◌, ◌%◌}
use Rattle.mapper_rules.specs.Walk.{bits, span, Translation, Fault, is_table_lem, is_block_lem, leaf}

-- the word at an address
abbrev pub memory : (ℕ → ℕ) → ℕ → ℕ
memory word a = word (a / 8)

-- a descriptor that leads no further, or one that leads to a table, with that table's 512 entries
pub data Entry : Type 0 where
  Ends : ℕ → Entry
  Leads : ℕ → (ℕ → Entry) → Entry

-- 512 entries, counted on from the first after the last
abbrev pub table : (ℕ → Entry) → ℕ → Entry
table f j = f (j % 512)

-- the page of the table that a descriptor leads to, counted from address 0
abbrev pub page_of : ℕ → ℕ
page_of d = bits 12 36 d

-- what the descriptor d at height h leads to, by its words; at is the page of each table
unfoldable pub leads_to : (ℕ → ℕ) → (ℕ → ℕ) → ℕ → ℕ → Entry
leads_to at word zero d = Ends d
leads_to at word (suc h) d = cond (is_table_lem d) (Leads d (table (λ j. leads_to at word h (word (512 * at d + j))))) (Ends d)

-- the walk, from an entry on
unfoldable pub walk_entry : ℕ → Entry → ℕ → Translation
walk_entry zero (Ends d) x = cond (is_table_lem d) (leaf 0 d x) Fault
walk_entry zero (Leads d f) x = Fault
walk_entry (suc h) (Ends d) x = cond (is_block_lem (suc h) d) (leaf (suc h) d x) Fault
walk_entry (suc h) (Leads d f) x = walk_entry h (f (x / span h % 512)) x

-- f 0 ++ f 1 ++ .., f 0 + f 1 + .., and f 0 or f 1 or .., n of them
unfoldable pub joined : ℕ → (ℕ → List ℕ) → List ℕ
joined zero f = []
joined (suc n) f = joined n f ++ f n

unfoldable pub sum : ℕ → (ℕ → ℕ) → ℕ
sum zero f = 0
sum (suc n) f = sum n f + f n

unfoldable pub some : ℕ → (ℕ → Bool) → Bool
some zero f = false
some (suc n) f = some n f || f n

-- the pages of the tables that an entry leads to, each as often as it is reached
unfoldable pub tables : (ℕ → ℕ) → ℕ → Entry → List ℕ
tables at zero E = []
tables at (suc h) (Ends d) = []
tables at (suc h) (Leads d f) = at d ∷ joined 512 (λ j. tables at h (f j))

abbrev pub In : ℕ → List ℕ → Type 0
In p [] = ⊥
In p (x ∷ l) = (p ≡ x) ⊎ In p l

-- no number stands in the list twice
unfoldable pub Once : List ℕ → Type 0
Once [] = Unit {0}
Once (x ∷ l) = (In x l → ⊥) × Once l
