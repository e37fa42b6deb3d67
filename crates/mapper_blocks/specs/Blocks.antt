-- Blocks in the way of a mapping, in the words of an arena whose first word has the number b. Assumes nothing.
use Rattle.std.specs.Prelude.{Bool, List, ℕ, ◌+◌, ◌*◌}
use Rattle.mapper_rules.specs.Walk.{span}
use Rattle.mapper_laws.specs.declared.Mapping.{Mapping}
use Rattle.mapper_laws.specs.Tree.{page_of, leads_to, some}
use Rattle.mapper_laws.specs.Mapping.{blocked}
use Rattle.mapper_laws.specs.Arena.{shows}

-- in what the descriptor d at height h leads to
abbrev pub blocked_at : Mapping → ℕ → List ℕ → ℕ → ℕ → ℕ → Bool
blocked_at q b A h e d = blocked q h e (leads_to page_of (shows b A) h d)

-- in what the n entries from the word w on lead to, whose inputs begin at e
abbrev pub blocked_in : Mapping → ℕ → List ℕ → ℕ → ℕ → ℕ → ℕ → Bool
blocked_in q b A h e w n = some n (λ j. blocked_at q b A h (e + j * span h) (shows b A (w + j)))
