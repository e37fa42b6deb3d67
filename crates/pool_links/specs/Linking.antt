-- What linking leaves, whichever lists the arrays thread. n is the number of records. Assumes nothing.
use Rattle.std.specs.Prelude.{ℕ, true, List, ◌++◌, ◌∷◌, ◌≡◌}
use Rattle.linked_lists.specs.Links.{upd, has}
use Rattle.linked_lists.specs.Threads.{Threads, cut, Between}
use Rattle.pool_state.specs.Lent.{Lent, was, is}

-- record i has gone out of its list
abbrev pub Unlinked : ℕ → ℕ → Lent (List ℕ) → Lent (List ℕ) → Type 0
Unlinked n i prev next =
    (key : ℕ → ℕ) (lists : ℕ → List ℕ) → Threads n key lists (was prev) (was next) → has i (lists (key i)) ≡ true
    → Threads n key (cut key lists i) (is prev) (is next)

-- record i has come into its list, between the records b and a
abbrev pub Linked : ℕ → ℕ → ℕ → ℕ → Lent (List ℕ) → Lent (List ℕ) → Type 0
Linked n b i a prev next =
    (key : ℕ → ℕ) (lists : ℕ → List ℕ) (l r : List ℕ) → Threads n key lists (was prev) (was next) → Between n key lists b i a l r
    → Threads n key (upd lists (key i) (l ++ i ∷ r)) (is prev) (is next)
