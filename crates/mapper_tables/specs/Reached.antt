-- The pages of a top table, and of all tables that it leads to, in an arena whose first word has the number b. Assumes nothing.
use Rattle.std.specs.Prelude.{List, [], ◌∷◌, ◌++◌, ℕ, ◌+◌}
use Rattle.mapper_laws.specs.Tree.{joined}
use Rattle.mapper_marks.specs.Marking.{tables_in}
use Rattle.mapper_tables.specs.declared.Top.{Top}

abbrev pub pages_from : ℕ → ℕ → List ℕ
pages_from p n = joined n (λ k. (p + k) ∷ [])

abbrev pub reached_in : ℕ → List ℕ → Top → List ℕ
reached_in b A t = pages_from t.page t.pages ++ tables_in b A t.height t.word t.entries
