-- The free ranges that stand in the lent arrays of the pool. Assumes nothing.
use Rattle.std.specs.Prelude.{ℕ, List}
use Rattle.std.specs.Borrow.{Bor}
use Rattle.rules.specs.Rules.{Range}
use Rattle.pool_state.specs.Shown.{pool}
use Rattle.pool_chain.specs.Chain.{Ordered}

-- the links of the lent fields lead along free ranges, by address
abbrev pub SomeFree : Bor (List ℕ) → Bor (List ℕ) → Bor (List ℕ) → ℕ → Type 0
SomeFree start end next first = (c : List Range) × Ordered pool c start.now end.now next.now first

-- what is said of the free ranges that they led along
abbrev pub OfFree : (List Range → Type 0) → List ℕ → List ℕ → List ℕ → ℕ → Type 0
OfFree P start end next first = (c : List Range) → Ordered pool c start end next first → P c
