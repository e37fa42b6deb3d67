-- A walk along links, each step of which must pass a test. Assumes nothing.
use Rattle.std.specs.Prelude.{ℕ, zero, suc, ◌+◌, Bool, false, cond, eqb, Option, Some, None}
use Rattle.linked_lists.specs.Links.{none}

-- from i, with q before it: how many of f steps are left at the end. `step` tests each number against the one before it and a bound, which `past` gives
unfoldable pub walk : (next past : ℕ → ℕ) (step : ℕ → ℕ → ℕ → Bool) → ℕ → ℕ → ℕ → ℕ → Option ℕ
walk next past step zero q low i = cond (eqb i none) (Some 0) None
walk next past step (suc f) q low i = cond (eqb i none) (Some (suc f)) (cond (step q low i) (walk next past step f i (past i) (next i)) None)

-- the sum of the weights of what a walk meets, at most f
unfoldable pub sum_along : (next weight : ℕ → ℕ) → ℕ → ℕ → ℕ
sum_along next weight zero i = 0
sum_along next weight (suc f) i = cond (eqb i none) 0 (weight i + sum_along next weight f (next i))

-- the test of what is left at the end of a walk, if it came there
abbrev pub onward : (ℕ → Bool) → Option ℕ → Bool
onward p (Some f) = p f
onward p None = false
