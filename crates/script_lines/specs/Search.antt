-- The first place of a byte.
use Rattle.std.specs.Prelude.{ℕ, suc, ◌-◌, cond, List, [], ◌∷◌, eqb, take, drop, Option, Some, None}

-- the first place of the byte c in the bytes l, which begin at the place i
unfoldable pub first_from : ℕ → ℕ → List ℕ → Option ℕ
first_from c i [] = None
first_from c i (b ∷ l) = cond (eqb b c) (Some i) (first_from c (suc i) l)

-- of the places from `from` and before `to`
abbrev pub first_in : ℕ → ℕ → ℕ → List ℕ → Option ℕ
first_in c from to l = first_from c from (take (to - from) (drop from l))
