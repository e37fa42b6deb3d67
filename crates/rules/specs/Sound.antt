-- What a sound book is: document 01's "The chain and the shelf". Assumes nothing.
use Rattle.std.specs.Prelude.{◌≡◌, ◌≢◌, ◌⊎◌, ◌↔◌, List, [], ◌∷◌, ℕ, suc, ◌≤◌, ◌<◌}
use Rattle.rules.specs.Rules.{top, Range, size, Book}

-- the range stands in the list
abbrev pub In : Range → List Range → Type 0
In q [] = ⊥
In q (r ∷ l) = (q ≡ r) ⊎ In q l

-- R of each member and each one after it
abbrev pub Pairwise : (Range → Range → Type 0) → List Range → Type 0
Pairwise R [] = Unit {0}
Pairwise R (r ∷ l) = ((q : Range) → In q l → R r q) × Pairwise R l

-- q starts after r, and does not touch it
abbrev pub Ahead : Range → Range → Type 0
Ahead r q = suc r.last < q.start

abbrev pub Apart : Range → Range → Type 0
Apart r q = Ahead q r ⊎ Ahead r q

abbrev pub Other : Range → Range → Type 0
Other r q = r.number ≢ q.number

abbrev pub Smaller : Range → Range → Type 0
Smaller r q = size r ≤ size q

-- a range of one byte or more, below 2^63, in one of n records
pub record Good (n : ℕ) (r : Range) : Type 0 where
  pub known : r.number < n
  pub proper : r.start ≤ r.last
  pub below : r.last < top

-- the chain is by address, with no two ranges that overlap or touch; the shelf has the same ranges, by size; no record stands twice in either
pub record Sound (n : ℕ) (b : Book) : Type 0 where
  pub good : (r : Range) → In r b.chain → Good n r
  pub apart : Pairwise Ahead b.chain
  pub once : Pairwise Other b.chain
  pub sizes : Pairwise Smaller b.shelf
  pub once-shelf : Pairwise Other b.shelf
  pub same : (r : Range) → In r b.chain ↔ In r b.shelf
