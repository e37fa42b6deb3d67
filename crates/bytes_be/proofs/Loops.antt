-- One turn of the loops that write a number and read one. Assumes nothing.
use mathlib.Core.Path.{◌≡◌}
use mathlib.Core.List.{List, ◌++◌, append_assoc}
use Prim.Native.Nat.{ℕ, zero, suc, ◌+◌, ◌-◌, ◌*◌, ◌/◌, ◌%◌, ◌^◌, ◌≤◌, ◌<◌}
use native.Mathlib.Nat.{pow-suc, pow-le-pow_right}
use native.Mathlib.Numerals.{add-one, sub-one}
use native.Mathlib.Omega.{arith}
use lib.ListN.{length, drop, set, get_or, length-set}
use lib.Seq.{drop-cons, get_or-set_same, drop-set-lt}
use Rattle.bytes_be.specs.Numbers.{be, more}

-- the last byte of a number of i bytes is put, and the i - 1 bytes before it are to come
pub put-before : (i x : ℕ) (l : List ℕ) → 0 < i → i ≤ length l → be (i - 1) (x / 256) ++ drop (i - 1) (set l (i - 1) (x % 256)) ≡ be i x ++ drop i l
unfolding be
put-before zero x l p h = absurd (omega arith)
put-before (suc k) x l p h =
    let h' : k < length (set l k (x % 256)) = simp length-set (omega arith) in
    rw sub-one
    (rw (drop-cons (set l k (x % 256)) k 0 h', get_or-set_same l k (x % 256) 0 (omega arith), drop-set-lt (suc k) l k (x % 256) (omega arith), append_assoc))

-- one byte more: the number still fits
pub grows : (i x b : ℕ) → i < 8 → x < 256 ^ i → b < 256 → (x * 256 + b < 256 ^ (i + 1)) × (x * 256 + b < 2 ^ 64)
grows i x b h hx hb =
    let p : 256 ^ (i + 1) ≡ 256 ^ i * 256 = rw add-one (pow-suc 256 i) in
    let q : 256 ^ (i + 1) ≤ 256 ^ 8 = pow-le-pow_right {n = 256} (omega arith) {i = i + 1} {j = 8} (omega arith) in
    (omega arith, omega arith)

pub more-next : (l : List ℕ) (i x : ℕ) → i < length l → more (x * 256 + get_or l i 0) (drop (i + 1) l) ≡ more x (drop i l)
unfolding more
more-next l i x h = rw (add-one, drop-cons l i 0 h)
