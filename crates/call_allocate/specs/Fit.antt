-- The lines of `allocate` that look at the ranges, and what one search comes to. Assumes nothing.
use Rattle.std.specs.Prelude.{ℕ, ◌+◌, Bool, not, ◌&&◌}
use Rattle.std.proofs.Math.Option.{Option, none, some}
use Rattle.rules.specs.Rules.{Range, Book, up, any, find, full, splits, fit, fits, serves, taken, Answer, accepted, refused, refuse, allocate_from}

-- z bytes are taken from the first range of the shelf that can be served
abbrev pub allocate_fit_lem : ℕ → ℕ → ℕ → Book → Answer
allocate_fit_lem n z o b =
    refuse (not (any (λ r. fits (fit z o r)) b.shelf)) 3 b
    (allocate_from n z o b (find (λ r. serves (not (full n b)) (fit z o r)) b.shelf))

-- the same of the first range that could be served if `spare` were so, which may want a record that is not there
unfoldable pub first_from : ℕ → ℕ → ℕ → Book → Option Range → Answer
first_from n z o b none = refused 3 b
first_from n z o b (some r) =
    refuse (splits (up o r.start) (up o r.start + z) r && full n b) 1 b
    (accepted (up o r.start) (taken n r (up o r.start) (up o r.start + z) b))

abbrev pub allocate_first_lem : ℕ → Bool → ℕ → ℕ → Book → Answer
allocate_first_lem n spare z o b = first_from n z o b (find (λ r. serves spare (fit z o r)) b.shelf)
