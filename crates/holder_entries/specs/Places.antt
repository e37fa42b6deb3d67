-- Where an entry stands. Assumes nothing.
use Rattle.std.specs.Prelude.{Bool, cond, List, [], ◌∷◌, ℕ, suc, Option, None, Some}
use Rattle.holder_rules.specs.Register.{free, hands}
use Rattle.holder_rules.specs.declared.Entry.{Entry}
use Rattle.holder_rules.specs.declared.EntryIndex.{EntryIndex}

-- the first that passes the test, counted from i
unfoldable pub first_from : (Entry → Bool) → ℕ → List Entry → Option EntryIndex
first_from p i [] = None
first_from p i (e ∷ l) = cond (p e) (Some (record { 0 = i })) (first_from p (suc i) l)

abbrev pub unused_in : List Entry → Option EntryIndex
unused_in r = first_from free 0 r

abbrev pub handed_in : ℕ → ℕ → ℕ → List Entry → Option EntryIndex
handed_in h s z r = first_from (hands h s z) 0 r
