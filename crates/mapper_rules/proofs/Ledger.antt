-- The one claim about the walk's ledger: each line finds what it says. Assumes nothing.
use mathlib.Core.Path.{◌≡◌, refl}
use mathlib.Core.List.{map}
use Rattle.mapper_rules.specs.Walk.{span, attributes_of, leaf, walk_from, walk}
use Rattle.mapper_rules.specs.Ledger.{Line, word_at, found, walked, table}

pub ledger : map walked table ≡ map (λ (l : Line). l.finds) table
unfolding walk walk_from leaf span attributes_of word_at found
ledger = refl
