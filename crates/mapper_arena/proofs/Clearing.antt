-- Words cleared one after another. Assumes nothing.
use mathlib.Core.Path.{◌≡◌, refl, ◌∙◌, ap}
use mathlib.Core.List.{List}
use Prim.Native.Nat.{ℕ, zero, suc, ◌+◌, ◌*◌, ◌/◌, ◌^◌, ◌<◌}
use native.Mathlib.Nat.{mod-lt}
use native.Mathlib.Numerals.{add-one}
use lib.Dec.{leb, lit<}
use lib.ListN.{length, length-set}
use Rattle.rules_laws.proofs.Lists.{if}
use Rattle.mapper_laws.specs.Tree.{page_of}
use Rattle.mapper_laws.specs.Arena.{stored, cleared}

pub page-small : (d r : ℕ) → r ≡ page_of d → r < 2 ^ 36
page-small d r e = rw e (mod-lt (d / 4096) (lit< tt))

pub none-cleared : (b w : ℕ) (A : List ℕ) → A ≡ cleared 0 b A w
unfolding cleared
none-cleared b w A = refl

pub one_more : (n b w : ℕ) (A B : List ℕ) {C : List ℕ} → B ≡ cleared n b A w → C ≡ stored b B (w + n) 0 → C ≡ cleared (n + 1) b A w
unfolding cleared
one_more n b w A B e f = f ∙ rw (add-one, e)

pub all-cleared : (m b : ℕ) (A : List ℕ) {n r p : ℕ} {B : List ℕ} → B ≡ cleared n b A (m * r) → n ≡ m → r ≡ p → B ≡ cleared m b A (m * p)
all-cleared m b A {n} {r} e f g = e ∙ ap (λ (k : ℕ). cleared k b A (m * r)) f ∙ ap (λ (x : ℕ). cleared m b A (m * x)) g

pub cleared-length : (n b w : ℕ) (A : List ℕ) → length (cleared n b A w) ≡ length A
unfolding cleared
cleared-length zero b w A = refl
cleared-length (suc n) b w A =
    if (leb b (w + n)) (λ (l : List ℕ). length l ≡ length A) (λ _. simp length-set (cleared-length n b w A)) (λ _. cleared-length n b w A)
