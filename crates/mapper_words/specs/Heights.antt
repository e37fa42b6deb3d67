-- Heights of any number. Assumes nothing.
use Rattle.std.specs.Prelude.{ℕ, cond, nat_lt}

-- there is no height above 3
unfoldable pub capped : ℕ → ℕ
capped h = cond (nat_lt h 3) h 3
