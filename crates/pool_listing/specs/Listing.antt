-- The listing: the starts and the last bytes of the free ranges, by address, in two lent slices. c is the chain. Assumes nothing.
use Rattle.std.specs.Prelude.{ℕ, ◌≤◌, Bool, cond, ◌||◌, Option, Some, None, List, ◌++◌, map, ◌≡◌, ltb, length, drop}
use Rattle.rules.specs.Rules.{Range, start_of}
use Rattle.pool_chain.specs.Chain.{Ordered}

abbrev pub last_of : Range → ℕ
last_of r = r.last

-- either slice is shorter than the count
abbrev pub short : List Range → ℕ → ℕ → Bool
short c m n = ltb m (length c) || ltb n (length c)

-- the number of ranges, if both slices, of m and n places, have room for as many
unfoldable pub listed_of : List Range → ℕ → ℕ → Option ℕ
listed_of c m n = cond (short c m n) None (Some (length c))

-- xs in the first places; those past them keep their contents
abbrev pub written : {X : Type 0} → List X → List X → List X
written xs old = xs ++ drop (length xs) old

-- the contents of a slice after the listing: where either is too short, nothing is written
unfoldable pub shown : (Range → ℕ) → List Range → ℕ → ℕ → List ℕ → List ℕ
shown key c m n old = cond (short c m n) old (written (map key c) old)

-- the links lead along the chain, and both slices have a place for each range
pub record Roomy (n : ℕ) (c : List Range) (start end next : List ℕ) (first : ℕ) (starts lasts : List ℕ) : Type 0 where
  pub ordered : Ordered n c start end next first
  pub starts_fit : length c ≤ length starts
  pub lasts_fit : length c ≤ length lasts

-- the two slices are written
pub record Wrote (c : List Range) (starts lasts starts' lasts' : List ℕ) : Type 0 where
  pub starts-now : starts' ≡ written (map start_of c) starts
  pub lasts_now : lasts' ≡ written (map last_of c) lasts

-- what the listing answers and leaves
pub record Lists (c : List Range) (starts lasts : List ℕ) (r : Option ℕ) (starts' lasts' : List ℕ) : Type 0 where
  pub answer : r ≡ listed_of c (length starts) (length lasts)
  pub starts-now : starts' ≡ shown start_of c (length starts) (length lasts) starts
  pub lasts_now : lasts' ≡ shown last_of c (length starts) (length lasts) lasts
