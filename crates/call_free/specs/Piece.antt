-- The lines of `free` that look at the ranges. Assumes nothing.
use Rattle.std.specs.Prelude.{ℕ, ◌&&◌}
use Rattle.rules.specs.Rules.{Book, Answer, accepted, refuse, any, meets, lower, upper, alone, full, given}

-- the bytes from a to before t become free, if none of them is
unfoldable pub free_piece_lem : ℕ → ℕ → ℕ → Book → Answer
free_piece_lem n a t b =
    refuse (any (meets a t) b.chain) 4 b
    (refuse (alone (lower a b) (upper t b) && full n b) 1 b
    (accepted 0 (given n a t b)))
