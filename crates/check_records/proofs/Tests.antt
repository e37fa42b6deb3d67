-- Tests joined by `&&`.
use mathlib.Core.Bool.{Bool, true, false, ◌&&◌}
use mathlib.Core.Path.{◌≡◌, refl, sym}
use Rattle.linked_lists.proofs.Laws.{true≢false}

pub and-true : (a b : Bool) → (a && b) ≡ true → (a ≡ true) × (b ≡ true)
and-true true b h = (refl, h)
and-true false b h = true≢false (sym h)

pub true-and : (a b : Bool) → a ≡ true → b ≡ true → (a && b) ≡ true
true-and a b p q = rw (p, q)

pub false-and : (a b : Bool) → a ≡ false → (a && b) ≡ false
false-and a b p = rw p

pub and-of : (a b : Bool) → a ≡ true → (a && b) ≡ b
and-of a b p = rw p
