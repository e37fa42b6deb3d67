-- A register in words: holder, first byte and last byte of each entry, by number. Assumes nothing.
use Rattle.std.specs.Prelude.{ℕ, zero, suc, ◌+◌, ◌*◌, List, [], ◌∷◌, ◌++◌, get_or}
use Rattle.holder_rules.specs.Register.{entry}
use Rattle.holder_rules.specs.declared.Entry.{Entry}

abbrev pub entry_at_lem : List ℕ → ℕ → Entry
entry_at_lem w i = entry (get_or w (3 * i) 0) (get_or w (3 * i + 1) 0) (get_or w (3 * i + 2) 0)

-- the first k
unfoldable pub entries_in : List ℕ → ℕ → List Entry
entries_in w zero = []
entries_in w (suc k) = entries_in w k ++ (entry_at_lem w k ∷ [])
