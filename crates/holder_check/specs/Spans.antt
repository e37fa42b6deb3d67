-- The ranges that a listing shows. Assumes nothing.
use Rattle.std.specs.Prelude.{List, [], ◌∷◌, ℕ, zero, suc}
use Rattle.rules.specs.Rules.{Range, range}

-- the first k of these first and last bytes
unfoldable pub spans : ℕ → List ℕ → List ℕ → List Range
spans zero ss ls = []
spans (suc k) [] ls = []
spans (suc k) (s ∷ ss) [] = []
spans (suc k) (s ∷ ss) (l ∷ ls) = range 0 s l ∷ spans k ss ls
