-- Rounding by shifts. Assumes nothing.
use Prim.Native.Nat.{ℕ, ◌+◌, ◌-◌, ◌*◌, ◌/◌, ◌%◌, ◌^◌, ◌<◌, ◌≤◌}
use mathlib.Core.Path.{◌≡◌, ◌∙◌}
use lib.Dec.{lit≤}
use native.Mathlib.Omega.{arith}
use native.Mathlib.Nat.{mod-eq_of_lt, pow-le-pow_right, div-mul-le_self}
use Rattle.rules.specs.Rules.{down, up}

-- ---- rounding

pub shift_is : (o : ℕ) → o ≤ 63 → (1 * 2 ^ o) % 18446744073709551616 ≡ 2 ^ o
shift_is o h =
    let e : 1 * 2 ^ o ≡ 2 ^ o = omega arith in
    let p = pow-le-pow_right {n = 2} (lit≤ tt) {i = o} {j = 63} h in
    mod-eq_of_lt (omega arith) ∙ e

pub power_pos : (o : ℕ) → 1 ≤ 2 ^ o
power_pos o = pow-le-pow_right {n = 2} (lit≤ tt) {i = 0} {j = o} (omega arith)

pub power-top : (o : ℕ) → o ≤ 63 → 2 ^ o ≤ 2 ^ 63
power-top o h = pow-le-pow_right {n = 2} (lit≤ tt) {i = o} {j = 63} h

pub shifted : (x o : ℕ) → x < 2 ^ 64 → (x / 2 ^ o * 2 ^ o) % 18446744073709551616 ≡ down o x
unfolding down
shifted x o h = mod-eq_of_lt (let p = div-mul-le_self x (2 ^ o) in omega arith)

-- the code's power of two, and its rounding up
pub rounded : (m o x : ℕ) → m ≡ 2 ^ o → down o (x + (m - 1)) ≡ up o x
unfolding down up
rounded m o x e = rw e
