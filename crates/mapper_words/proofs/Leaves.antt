-- When one leaf serves, and the sums of its word. Assumes nothing.
use Rattle.std.proofs.Common.{◌≡◌, ℕ, ◌+◌, ◌-◌, ◌*◌, ◌%◌, ◌^◌, ◌<◌, ◌≤◌, true, false, eqb, ltb, leb, sym, ap, ◌∙◌, mod-lt, mul_comm, arith, ltb-false, ltb-true, le-leb}
use native.Mathlib.Nat.{add-mod, mod-add-mod}
use borrow.Author.Tests.{lt-leb}
use Rattle.mapper_rules.specs.Walk.{span}
use Rattle.mapper_laws.proofs.Spans.{span_pos}
use Rattle.mapper_laws.specs.declared.Mapping.{Mapping}
use Rattle.mapper_laws.specs.Mapping.{fits}
use Rattle.mapper_words.specs.Heights.{capped}
use Rattle.mapper_words.proofs.Heights.{low-height, high-height, most-span}

pub too-low : (q : Mapping) (h e : ℕ) → e < q.from → false ≡ fits q h e
too-low q h e l = rw (lt-leb q.from e l)

module _ (q : Mapping) (h e bytes : ℕ) (is : bytes ≡ span (capped h)) where
  pub cut_off : q.from ≤ e → ltb q.past (e + bytes) ≡ true → false ≡ fits q (capped h) e
  cut_off l t =
      let s : ltb q.past (e + span (capped h)) ≡ true = ap (λ (y : ℕ). ltb q.past (e + y)) (sym is) ∙ t in
      rw (le-leb q.from e l, lt-leb (e + span (capped h)) q.past (ltb-true q.past (e + span (capped h)) s))

  ends : ltb q.past (e + bytes) ≡ false → e + span (capped h) ≤ q.past
  ends t = ltb-false q.past (e + span (capped h)) (ap (λ (y : ℕ). ltb q.past (e + y)) (sym is) ∙ t)

  pub too-high : q.from ≤ e → ltb q.past (e + bytes) ≡ false → 2 < h → false ≡ fits q (capped h) e
  too-high l t g = rw (le-leb q.from e l, le-leb (e + span (capped h)) q.past (ends t), high-height h g)

  pub whole : q.from ≤ e → ltb q.past (e + bytes) ≡ false → h ≤ 2 → eqb ((q.out % bytes + (e - q.from) % bytes) % bytes) 0 ≡ fits q (capped h) e
  whole l t g =
      rw (le-leb q.from e l, le-leb (e + span (capped h)) q.past (ends t), low)
      (ap (λ (y : ℕ). eqb y 0) (sym (add-mod q.out (e - q.from) bytes) ∙ ap (λ (m : ℕ). (q.out + (e - q.from)) % m) is))
    where
      low : leb (capped h) 2 ≡ true
      low = rw (low-height h (omega arith)) (le-leb h 2 g)

-- a span is a number that may divide, and two remainders of it make a sum that fits
module _ (h bytes : ℕ) (is : bytes ≡ span (capped h)) where
  pub positive : 0 < bytes
  positive = rw is (span_pos (capped h))

  pub remainders : (a b : ℕ) → a % bytes + b % bytes < 2 ^ 64
  remainders a b =
      let p = positive in
      let l = mod-lt a p in
      let r = mod-lt b p in
      let s : bytes ≤ 2 ^ 39 = rw is (most-span h) in
      omega arith

-- the sum of a word, cut at each step, is the sum cut once
word_sum : (m o d p b : ℕ) → ((o + d) % m + ((p * 64) % m + b) % m) % m ≡ (o + d + (64 * p + b)) % m
word_sum m o d p b =
    ap (λ (y : ℕ). ((o + d) % m + y) % m) (mod-add-mod (p * 64) m b)
    ∙ sym (add-mod (o + d) (p * 64 + b) m)
    ∙ ap (λ (y : ℕ). (o + d + (y + b)) % m) (mul_comm p 64)

pub leaf-sum : (m o d p b : ℕ) {r s t l k : ℕ} → l ≡ d → k ≡ b → r ≡ (o + l) % m → s ≡ ((p * 64) % m + k) % m → t ≡ (r + s) % m
    → t ≡ (o + d + (64 * p + b)) % m
leaf-sum m o d p b {r} {s} {t} {l} {k} el ek er es et =
    et
    ∙ ap (λ (y : ℕ). (y + s) % m) (er ∙ ap (λ (y : ℕ). (o + y) % m) el)
    ∙ ap (λ (y : ℕ). ((o + d) % m + y) % m) (es ∙ ap (λ (y : ℕ). ((p * 64) % m + y) % m) ek)
    ∙ word_sum m o d p b
