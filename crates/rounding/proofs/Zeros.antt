-- The list number of a size from the leading zeros of the size less one, for any number of lists and of digits. Assumes nothing.
use Prim.Native.Nat.{ℕ, ◌+◌, ◌-◌, ◌*◌, ◌^◌, ◌≤◌, ◌<◌}
use mathlib.Core.Path.{◌≡◌, ◌∙◌, ap}
use mathlib.Core.Bool.{cond}
use mathlib.Core.Logic.{inl, inr}
use native.Mathlib.Omega.{arith}
use native.Mathlib.Nat.{pow-le-pow_right}
use lib.Count.{count_leading_zeros, leading_length}
use lib.Dec.{leb, ltb, leb→le, nleb→lt, ltb→lt, nltb→le, lit≤}
use lib.Pow.{pow-add, pow_pos}
use borrow.Author.Tests.{le-ltb, lt-ltb}
use Rattle.rules.specs.Rules.{least}
use Rattle.rules_laws.proofs.Lists.{if, T-or-not}
use Rattle.rules_laws.proofs.Facts.{least_fits, least-no-less}
use Rattle.rules_laws.proofs.Shelf.{least-le}

-- k, but never above n
abbrev pub capped : ℕ → ℕ → ℕ
capped n k = cond (ltb n k) n k

-- ---- the least, from the powers that are too small and one that is not

no_more : (n k z : ℕ) → z ≤ 4096 * 2 ^ k → least n 0 z ≤ k
no_more n k z h = elim (T-or-not (leb (least n 0 z) k)) [
  | inl t ↦ leb→le (least n 0 z) k t
  | inr t ↦ absurd (let f = least-no-less n 0 z k (omega arith) (nleb→lt (least n 0 z) k t) in let x : ⊥ = omega arith in x)
]

no_less : (n j z : ℕ) → ((i : ℕ) → i < j → 4096 * 2 ^ i < z) → j ≤ n → j ≤ least n 0 z
no_less n j z g b = elim (T-or-not (leb j (least n 0 z))) [
  | inl t ↦ leb→le j (least n 0 z) t
  | inr t ↦ absurd (let u = nleb→lt j (least n 0 z) t in let f = least_fits n 0 z (omega arith) in let q = g (least n 0 z) u in let x : ⊥ = omega arith in x)
]

least-is : (n k z : ℕ) → z ≤ 4096 * 2 ^ k → ((i : ℕ) → i < k → 4096 * 2 ^ i < z) → least n 0 z ≡ capped n k
least-is n k z h g = if (ltb n k) (λ x. least n 0 z ≡ x)
    (λ t. let b = ltb→lt n k t in omega (arith, no_less n n z (λ i l. g i (omega arith)) (omega arith), least-le n 0 z))
    (λ t. omega (arith, no_less n k z g (nltb→le n k t), no_more n k z h))

-- ---- the powers, from the number m of digits of the size less one

grows : (i j : ℕ) → i ≤ j → 2 ^ i ≤ 2 ^ j
grows i j h = pow-le-pow_right {n = 2} (lit≤ tt) {i = i} {j = j} h

holds : (z m : ℕ) → z - 1 < 2 ^ m → z ≤ 4096 * 2 ^ (m - 12)
holds z m h = omega (arith, grows m (12 + (m - 12)) (omega arith), pow-add 2 12 (m - 12))

too_small : (z m i : ℕ) → 2 ^ m ≤ 2 * (z - 1) + 1 → i < m - 12 → 4096 * 2 ^ i < z
too_small z m i h l = omega (arith, grows (13 + i) m (omega arith), pow-add 2 13 i, pow_pos i)

-- the list number of a size out of n + 1 lists, from the leading zeros of the size less one in w digits; that is 0 for the size 0
pub least-zeros : (n w z : ℕ) → z ≤ 2 ^ w → least n 0 z ≡ capped n (w - 12 - count_leading_zeros w (z - 1))
least-zeros n w z h =
    let t = leading_length w (z - 1) (omega (arith, pow_pos w)) in
    let e : t.0 - 12 ≡ w - 12 - count_leading_zeros w (z - 1) = omega (arith, t.1) in
    least-is n (t.0 - 12) z (holds z t.0 t.2) (λ i. too_small z t.0 i t.3) ∙ ap (capped n) e

-- ---- way by way, as the code goes

pub first-list : (n z : ℕ) → z ≤ 4096 → least n 0 z ≡ 0
first-list n z h = omega (arith, no_more n 0 z (omega arith))

-- from 4096 on there are more than 12 digits
pub zeros-le : (w x : ℕ) → 4096 ≤ x → x < 2 ^ w → count_leading_zeros w x ≤ w - 12
zeros-le w x g h =
    let t = leading_length w x h in
    elim (T-or-not (leb 12 t.0)) [
      | inl y ↦ omega (arith, t.1, leb→le 12 t.0 y)
      | inr y ↦ absurd (omega (arith, t.2, grows t.0 12 (omega (arith, nleb→lt 12 t.0 y))))
    ]

pub within : (n w z : ℕ) → z ≤ 2 ^ w → w - 12 - count_leading_zeros w (z - 1) ≤ n → least n 0 z ≡ w - 12 - count_leading_zeros w (z - 1)
within n w z h b = least-zeros n w z h ∙ ap (λ t. cond t n (w - 12 - count_leading_zeros w (z - 1))) (le-ltb n (w - 12 - count_leading_zeros w (z - 1)) b)

pub beyond : (n w z : ℕ) → z ≤ 2 ^ w → n < w - 12 - count_leading_zeros w (z - 1) → least n 0 z ≡ n
beyond n w z h b = least-zeros n w z h ∙ ap (λ t. cond t n (w - 12 - count_leading_zeros w (z - 1))) (lt-ltb n (w - 12 - count_leading_zeros w (z - 1)) b)
