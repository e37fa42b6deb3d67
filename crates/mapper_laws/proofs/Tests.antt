-- Tests that are false. Assumes nothing.
use mathlib.Core.Bool.{Bool, true, false, not, ◌||◌}
use lib.Dec.{T}

pub not-or-l : (a b : Bool) → T (not (a || b)) → T (not a)
not-or-l true b t = absurd t
not-or-l false b t = tt

pub not-or-r : (a b : Bool) → T (not (a || b)) → T (not b)
not-or-r true b t = absurd t
not-or-r false b t = t

pub not-not : (a : Bool) → T (not (not a)) → T a
not-not true t = tt
not-not false t = absurd t
