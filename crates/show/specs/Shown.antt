-- How far a showing of blocks has come. Assumes nothing.
use Rattle.std.specs.Prelude.{ℕ, ◌+◌, ◌≤◌, ◌<◌, ⊤}
use Rattle.show.specs.declared.Showing.{Showing}
use Rattle.show.specs.declared.Next.{Next}
use Rattle.show.specs.declared.Next.TheVariants.{Block, More, Over}

-- the next block lies further on, in so many bytes
pub record Further (size : ℕ) (s r : Showing) : Type 0 where
  pub within : r.at ≤ size
  pub further : s.at < r.at
  pub few : r.index + s.at ≤ s.index + r.at

abbrev pub Came : ℕ → Showing → Next → Type 0
Came size s (Block r) = Further size s r
Came size s More = ⊤
Came size s Over = ⊤
