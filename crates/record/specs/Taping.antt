-- Where a recording stands in what was read and in what is to be written. Assumes nothing.
use Rattle.std.specs.Prelude.{ℕ, ◌≤◌, List, ◌≡◌, length}
use Rattle.record.specs.declared.Taping.{Taping}

-- the places lie in their arrays
pub record Placed (t : Taping) (carry out : List ℕ) : Type 0 where
  pub held : t.held ≤ length carry
  pub at : t.at ≤ length out
