-- The last input, and the top table's size with every T0SZ and every SL0. Assumes nothing.
use mathlib.Core.Path.{◌≡◌, sym, ◌∙◌, ap}
use mathlib.Core.Bool.{cond}
use Prim.Native.Nat.{ℕ, suc, ◌+◌, ◌-◌, ◌*◌, ◌/◌, ◌%◌, ◌^◌, ◌≤◌, ◌<◌}
use native.Mathlib.Omega.{arith}
use lib.Arith.{digits_div}
use lib.Pow.{pow-add}
use lib.Dec.{T, ltb, eqb, eqb→eq, nltb→le, lit<}
use borrow.Author.Tests.{lt-ltb, le-ltb}
use Rattle.rounding.proofs.Rounding.{power_pos, shift_is}
use Rattle.rules_laws.proofs.Lists.{if}
use Rattle.mapper_laws.proofs.Registers.{every, of_fields, entries, sized}
use Rattle.mapper_rules.specs.Walk.{span, sl0, t0sz}
use Rattle.mapper_rules.specs.Numbers.{top_bytes_lem}

pub last-is : (t : ℕ) → t < 64 → 18446744073709551615 / 2 ^ t ≡ 2 ^ (64 - t) - 1
last-is t h =
    let a = 2 ^ (64 - t) in
    let m = 2 ^ t in
    let n : 64 ≡ (64 - t) + t = omega arith in
    let whole : 2 ^ 64 ≡ a * m = ap (λ (y : ℕ). 2 ^ y) n ∙ pow-add 2 (64 - t) t in
    let pa = power_pos (64 - t) in
    let pm = power_pos t in
    let k = a - 1 in
    let s : suc k ≡ a = omega arith in
    let split : suc k * m ≡ k * m + m = omega arith in
    let e : 18446744073709551615 ≡ k * m + (m - 1) = let w : k * m + m ≡ 18446744073709551616 = sym split ∙ ap (λ (y : ℕ). y * m) s ∙ sym whole in omega arith in
    ap (λ (y : ℕ). y / m) e ∙ digits_div k (let z : m - 1 < m = omega arith in z)

-- the size by the code
abbrev pub shifted : ℕ → ℕ → ℕ
shifted sl t = cond (ltb (t + 9 * sl) 34) (2 ^ (46 - (t + 9 * sl))) 4096

all : T (every 4 (λ sl. every 64 (λ t. eqb (shifted sl t) (sized sl t))))
unfolding every span
all = tt

pub shifted-size : (vtcr : ℕ) → shifted (vtcr / 64 % 4) (vtcr % 64) ≡ top_bytes_lem vtcr
unfolding top_bytes_lem
shifted-size vtcr =
    eqb→eq (shifted (sl0 vtcr) (t0sz vtcr)) (sized (sl0 vtcr) (t0sz vtcr)) (of_fields (λ sl t. eqb (shifted sl t) (sized sl t)) all vtcr)

-- the size by a shift, and where there is none
pub by-shift : (vtcr less : ℕ) → less ≡ vtcr % 64 + 9 * (vtcr / 64 % 4) → less < 34 → (1 * 2 ^ (46 - less)) % 18446744073709551616 ≡ top_bytes_lem vtcr
by-shift vtcr less e h = shift_is (46 - less) (omega arith) ∙ small ∙ ap (λ (y : ℕ). cond (ltb y 34) (2 ^ (46 - y)) 4096) e ∙ shifted-size vtcr
  where
    small : 2 ^ (46 - less) ≡ cond (ltb less 34) (2 ^ (46 - less)) 4096
    small = rw (lt-ltb less 34 h)

pub by-page : (vtcr : ℕ) → 34 ≤ vtcr % 64 + 9 * (vtcr / 64 % 4) → 4096 ≡ top_bytes_lem vtcr
by-page vtcr h = page ∙ shifted-size vtcr
  where
    page : 4096 ≡ shifted (vtcr / 64 % 4) (vtcr % 64)
    page = rw (le-ltb (vtcr % 64 + 9 * (vtcr / 64 % 4)) 34 h)

pub size-positive : (vtcr : ℕ) → 0 < top_bytes_lem vtcr
unfolding top_bytes_lem
size-positive vtcr =
    let e = 8 * entries (vtcr / 64 % 4) (vtcr % 64) in
    if (ltb e 4096) (λ (y : ℕ). 0 < y) (λ _. lit< tt) (λ t. let l = nltb→le e 4096 t in omega arith)
