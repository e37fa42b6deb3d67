-- What the definitions give on each way through the code. Assumes nothing.
use Prim.Native.Nat.{ℕ, ◌≤◌, ◌<◌}
use mathlib.Core.Bool.{Bool, true, false, cond, ◌&&◌}
use mathlib.Core.Logic.{◌≢◌}
use mathlib.Core.Path.{◌≡◌, refl, sym, ◌∙◌}
use native.Mathlib.Omega.{arith}
use lib.Dec.{eqb}
use borrow.Author.Tests.{eq-eqb, ne_eqb, lt-ltb, le-ltb, le-leb, lt-leb}
use Rattle.rules_lowest.specs.Lowest.{never, low_sound}

-- ---- the figure beside a total

module _ (total low : ℕ) where
  pub low-within : low ≤ total → true ≡ low_sound total low
  low-within h = rw (le-leb low total h)

  pub low-empty : total < low → total ≡ 0 → eqb low never ≡ low_sound total low
  low-empty h e = rw (lt-leb low total h, eq-eqb total 0 e)

  pub low-above : total < low → total ≢ 0 → false ≡ low_sound total low
  low-above h e = rw (lt-leb low total h, ne_eqb total 0 e)

-- ---- two tests

pub passed_on : (p q r : Bool) → p ≡ true → r ≡ q → r ≡ (p && q)
passed_on p q r e f = rw e f

pub not-passed : (p q : Bool) → p ≡ false → false ≡ (p && q)
not-passed p q e = rw e
