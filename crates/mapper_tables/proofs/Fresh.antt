-- Marks of which none is set. Assumes nothing.
use mathlib.Core.Path.{◌≡◌, subst}
use mathlib.Core.Bool.{Bool, false}
use Prim.Native.Nat.{ℕ, ◌<◌}
use lib.ListN.{length, get_or, replicate, length-replicate, get_or-replicate}
use Rattle.mapper_tables.specs.Apart.{window}

pub no-marks : length (replicate {A = Bool} window false) ≡ window
no-marks = length-replicate {A = Bool} window false

pub no-mark : (i : ℕ) → i < length (replicate {A = Bool} window false) → get_or (replicate {A = Bool} window false) i false ≡ false
no-mark i h = get_or-replicate {A = Bool} window i false false (subst (λ (n : ℕ). i < n) no-marks h)
