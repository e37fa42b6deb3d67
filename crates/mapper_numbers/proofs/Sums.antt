-- Tests of sums, without the sums. Assumes nothing.
use mathlib.Core.Path.{◌≡◌, sym}
use mathlib.Core.Logic.{◌≢◌}
use mathlib.Core.Bool.{true}
use Prim.Native.Nat.{ℕ, ◌+◌, ◌-◌, ◌≤◌, ◌<◌}
use native.Mathlib.Omega.{arith}
use lib.Dec.{ltb, ltb→lt, lt→ltb}
use borrow.Author.Tests.{lt-ltb}
use Rattle.rules_laws.proofs.Lists.{same_test}

pub beyond : (x a b : ℕ) → x < a → true ≡ ltb x (a + b)
beyond x a b h = sym (lt-ltb x (a + b) (omega arith))

pub moved : (x a b : ℕ) → a ≤ x → ltb (x - a) b ≡ ltb x (a + b)
moved x a b h = same_test (ltb (x - a) b) (ltb x (a + b))
    (λ t. let l = ltb→lt (x - a) b t in lt→ltb x (a + b) (omega arith))
    (λ t. let l = ltb→lt x (a + b) t in lt→ltb (x - a) b (omega arith))

-- a piece ends above the top exactly if its last address lies past the last one below the top
pub ends_above : (top start size : ℕ) → 0 < top → size ≢ 0 → ltb (top - 1) (start + (size - 1)) ≡ ltb top (start + size)
ends_above top start size p d = same_test (ltb (top - 1) (start + (size - 1))) (ltb top (start + size))
    (λ t. let l = ltb→lt (top - 1) (start + (size - 1)) t in lt→ltb top (start + size) (omega arith))
    (λ t. let l = ltb→lt top (start + size) t in lt→ltb (top - 1) (start + (size - 1)) (omega arith))
