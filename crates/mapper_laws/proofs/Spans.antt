-- Which entry of a table serves an input. Assumes nothing.
use mathlib.Core.Path.{◌≡◌, sym, ◌∙◌, ap}
use Prim.Native.Nat.{ℕ, suc, ◌+◌, ◌-◌, ◌*◌, ◌/◌, ◌%◌, ◌^◌, ◌≤◌, ◌<◌}
use native.Mathlib.Omega.{arith}
use native.Mathlib.Nat.{div-add-mod', mul-add-div_right, div-lt_iff_lt-mul, mod-lt, mul_assoc, mul-add-mod_self_right, mul-mod_left}
use lib.Pow.{pow_pos, pow-add}
use lib.Arith.{digits_mod}
use lib.Dec.{lit<}
use Rattle.mapper_rules.specs.Walk.{span}

pub span_pos : (h : ℕ) → 0 < span h
unfolding span
span_pos h = pow_pos (12 + 9 * h)

pub span-suc : (h : ℕ) → span (suc h) ≡ 512 * span h
unfolding span
span-suc h = ap (λ (k : ℕ). 2 ^ k) (let e : 12 + 9 * suc h ≡ 9 + (12 + 9 * h) = omega arith in e) ∙ pow-add 2 9 (12 + 9 * h)

pub record Index (S e x : ℕ) : Type 0 where
  pub few : x / S % 512 < 512
  pub low : e + x / S % 512 * S ≤ x
  pub high : x < e + x / S % 512 * S + S

index_at : (S u x : ℕ) → 0 < S → u * 512 * S ≤ x → x < u * 512 * S + 512 * S → Index S (u * 512 * S) x
index_at S u x pos low high =
    let y = x - u * 512 * S in
    let x' : u * 512 * S + y ≡ x = omega arith in
    let a : x / S ≡ u * 512 + y / S = ap (λ (z : ℕ). z / S) (sym x') ∙ mul-add-div_right pos (u * 512) y in
    let b : y / S < 512 = (div-lt_iff_lt-mul {k = S} {x = y} {y = 512} pos).1 (omega arith) in
    let d : x / S % 512 ≡ y / S = ap (λ (z : ℕ). z % 512) a ∙ digits_mod u b in
    let f = div-add-mod' y S in
    let g = mod-lt y pos in
    record { few = mod-lt (x / S) (lit< tt); low = rw d (omega arith); high = rw d (omega arith) }

pub multiple : (n m : ℕ) → n % m ≡ 0 → n / m * m ≡ n
multiple n m e = let d = div-add-mod' n m in omega arith

-- e is where the inputs of a table at height h begin
pub index_of : (h e x : ℕ) → e % span (suc h) ≡ 0 → e ≤ x → x < e + span (suc h) → Index (span h) e x
index_of h e x begins low high =
    let m = multiple e (span (suc h)) begins in
    let s = span-suc h in
    let u = e / span (suc h) in
    let e' : u * 512 * span h ≡ e = mul_assoc u 512 (span h) ∙ ap (λ (y : ℕ). u * y) (sym s) ∙ m in
    let i = index_at (span h) u x (span_pos h) (rw e' low) (rw e' (omega arith)) in
    rw e' at i

pub begins-below : (h e j : ℕ) → e % span (suc h) ≡ 0 → (e + j * span h) % span h ≡ 0
begins-below h e j begins =
    let m = multiple e (span (suc h)) begins in
    let s = span-suc h in
    let u = e / span (suc h) in
    let e' : u * 512 * span h ≡ e = mul_assoc u 512 (span h) ∙ ap (λ (y : ℕ). u * y) (sym s) ∙ m in
    rw (← e') (mul-add-mod_self_right (u * 512) (span h) (j * span h) ∙ mul-mod_left j (span h))
