-- The lines of `reserve` that look at the ranges. Assumes nothing.
use Rattle.std.specs.Prelude.{ℕ}
use Rattle.rules.specs.Rules.{Book, Answer, reserve_from, find, contains}

-- the bytes from a to before t are taken from the range that has them all
abbrev pub reserve_piece_lem : ℕ → ℕ → ℕ → Book → Answer
reserve_piece_lem n a t b = reserve_from n a t b (find (contains a t) b.chain)
