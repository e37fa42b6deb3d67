-- A test of whether a free range has one of the bytes from a first to a last one, which is asked of bytes below 2^63 alone. Assumes nothing.
use Rattle.std.specs.Prelude.{ℕ, suc, Bool, List, ◌≤◌, ◌<◌, ◌≡◌}
use Rattle.rules.specs.Rules.{top, Range, any, meets}

-- it may be asked
abbrev pub IsAsked : (ℕ → ℕ → Type 0) → Type 0
IsAsked may = (first last : ℕ) → first ≤ last → last < top → may first last

-- it tells of these ranges
abbrev pub Tells : (ℕ → ℕ → Bool → Type 0) → List Range → Type 0
Tells answers free = (first last : ℕ) (b : Bool) → first ≤ last → last < top → answers first last b → b ≡ any (meets first (suc last)) free
