-- Where the inputs of a table's entries begin, and that no sum is too large. Assumes nothing.
use mathlib.Core.Path.{◌≡◌, refl, ◌∙◌, ap}
use mathlib.Core.Logic.{◌≢◌, inl, inr}
use Prim.Native.Nat.{ℕ, zero, suc, ◌+◌, ◌-◌, ◌*◌, ◌/◌, ◌^◌, ◌≤◌, ◌<◌}
use native.Mathlib.Omega.{arith}
use native.Mathlib.Nat.{mul-le-mul_right, suc-mul, mod-lt}
use lib.Dec.{ltb, ltb→lt, nltb→le, lit<}
use Rattle.rules_laws.proofs.Lists.{T-or-not}
use Rattle.mapper_rules.specs.Walk.{span}
use Rattle.mapper_laws.specs.Tree.{page_of}
use Rattle.mapper_laws.proofs.Spans.{span-suc}
use Rattle.mapper_words.specs.Heights.{capped}
use Rattle.mapper_words.proofs.Heights.{low-height, top-height}

pub level : (h : ℕ) → h ≤ 3 → capped h ≡ h
level h l = elim (T-or-not (ltb h 3)) [
  | inl t ↦ low-height h (ltb→lt h 3 t)
  | inr t ↦ let g = nltb→le h 3 t in
      top-height h (λ e. let z : ⊥ = omega arith in z) (λ e. let z : ⊥ = omega arith in z) (λ e. let z : ⊥ = omega arith in z) ∙ (let e : 3 ≡ h = omega arith in e)
]

pub stride : (h s : ℕ) → h ≤ 3 → s ≡ span (capped h) → s ≡ span h
stride h s l e = e ∙ ap span (level h l)

-- n entries of s bytes each from e on: the j-th of them
pub entry-room : (e j n s most : ℕ) → j < n → e + n * s ≤ most → e + j * s + s ≤ most
entry-room e j n s most l room = let m : suc j * s ≤ n * s = mul-le-mul_right s (omega arith) in let d = suc-mul j s in omega arith

-- the table below an entry has 512 of them
pub table-room : (h e most : ℕ) → h ≢ 0 → e + span h ≤ most → e + 512 * span (h - 1) ≤ most
table-room zero e most n room = absurd (n refl)
table-room (suc h) e most n room = let s = span-suc h in let z : suc h - 1 ≡ h = omega arith in rw z (omega arith)

-- and its words are counted from address 0
pub page-words : (d p : ℕ) → p ≡ page_of d → 512 * p + 512 ≤ 2 ^ 50
page-words d p e = let l : page_of d < 2 ^ 36 = mod-lt (d / 4096) (lit< tt) in omega arith
