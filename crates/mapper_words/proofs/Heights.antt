-- Heights of any number. Assumes nothing.
use Rattle.std.proofs.Common.{◌≡◌, ℕ, ◌+◌, ◌*◌, ◌^◌, ◌<◌, ◌≤◌, false, ltb, leb, ◌≢◌, inl, inr, arith, lit≤, ltb→lt, nltb→le, le-ltb, lt-ltb}
use native.Mathlib.Nat.{pow-le-pow_right}
use Rattle.rules_laws.proofs.Lists.{T-or-not}
use Rattle.mapper_rules.specs.Walk.{span}
use Rattle.mapper_words.specs.Heights.{capped}

pub low-height : (h : ℕ) → h < 3 → capped h ≡ h
unfolding capped
low-height h l = rw (lt-ltb h 3 l)

pub top-height : (h : ℕ) → h ≢ 0 → h ≢ 1 → h ≢ 2 → capped h ≡ 3
unfolding capped
top-height h a b d = rw (le-ltb h 3 (omega arith))

pub high-height : (h : ℕ) → 2 < h → leb (capped h) 2 ≡ false
unfolding capped
high-height h l = rw (le-ltb h 3 (omega arith))

pub most-span : (h : ℕ) → span (capped h) ≤ 2 ^ 39
unfolding span capped
most-span h = elim (T-or-not (ltb h 3)) [
  | inl l ↦ let low = ltb→lt h 3 l in rw (lt-ltb h 3 low) (pow-le-pow_right {n = 2} (lit≤ tt) {i = 12 + 9 * h} {j = 39} (omega arith))
  | inr l ↦ rw (le-ltb h 3 (nltb→le h 3 l)) (lit≤ tt)
]
