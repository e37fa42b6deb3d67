-- The 64 bits of a signed answer, in two's complement, as one number. Assumes nothing.
use Rattle.std.specs.Prelude.{ℕ, suc, ◌-◌, ◌^◌, cond, ltb, ℤ, pos, negsuc}
use Rattle.rules.specs.Rules.{top}

abbrev pub bits_of : ℤ → ℕ
bits_of (pos a) = a
bits_of (negsuc k) = 2 ^ 64 - suc k

-- the signed number of these bits
abbrev pub signed_from : ℕ → ℤ
signed_from x = cond (ltb x top) (pos x) (negsuc (2 ^ 64 - suc x))
