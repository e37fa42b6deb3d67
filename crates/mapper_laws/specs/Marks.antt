-- Marks for the numbers of one window at a time: whether a number comes twice, or was marked before. Assumes nothing.
use Rattle.std.specs.Prelude.{Bool, true, not, cond, ◌&&◌, List, [], ◌∷◌, ℕ, ◌+◌, leb, ltb, eqb}

-- the numbers of a list that lie in the window of w numbers from lo on
abbrev pub in_window : ℕ → ℕ → ℕ → Bool
in_window lo w p = leb lo p && ltb p (lo + w)

unfoldable pub part : ℕ → ℕ → List ℕ → List ℕ
part lo w [] = []
part lo w (p ∷ l) = cond (in_window lo w p) (p ∷ part lo w l) (part lo w l)

pub record Marks : Type 0 where
  pub at : ℕ → Bool

abbrev pub marking : ℕ → Marks → Marks
marking p m = record { at = λ x. cond (eqb x p) true (m.at x) }

-- no number of the list was marked when it came; the marks afterwards
unfoldable pub fine : List ℕ → Marks → Bool
fine [] m = true
fine (p ∷ l) m = not (m.at p) && fine l (marking p m)

unfoldable pub marks : List ℕ → Marks → Marks
marks [] m = m
marks (p ∷ l) m = marks l (marking p m)
