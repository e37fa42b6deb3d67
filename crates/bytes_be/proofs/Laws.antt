-- What is written in k bytes is read from them, and what is read from k bytes is written in them, over any k. Assumes nothing.
use mathlib.Core.Path.{◌≡◌, refl, sym, ◌∙◌, ap}
use mathlib.Core.List.{List, [], ◌∷◌, ◌++◌}
use Prim.Native.Nat.{ℕ, zero, suc, ◌+◌, ◌*◌, ◌/◌, ◌%◌, ◌^◌, ◌≤◌, ◌<◌}
use native.Mathlib.Nat.{pow-suc, div-add-mod', div-lt_iff_lt-mul, mul-le-mul_right, mul_comm, mul_assoc, one-mul, zero-mul, zero-add, add-mul}
use native.Mathlib.Omega.{arith}
use lib.Arith.{digits_div, digits_mod}
use lib.ListN.{length, take, get_or, length-append}
use lib.Seq.{take-suc, take_all, length-take-le, get_or-take}
use Rattle.bytes_be.specs.Numbers.{be, more, number, Bytes}

pub length-be : (k x : ℕ) → length (be k x) ≡ k
unfolding be
length-be zero x = refl
length-be (suc k) x = simp (length-append, length-be k (x / 256)) (omega arith)

more-snoc : (l : List ℕ) (x b : ℕ) → more x (l ++ (b ∷ [])) ≡ more x l * 256 + b
unfolding more
more-snoc [] x b = refl
more-snoc (a ∷ l) x b = more-snoc l (x * 256 + a) b

pub number-be : (k x : ℕ) → x < 256 ^ k → number (be k x) ≡ x
unfolding be more
number-be zero x h = omega arith
number-be (suc k) x h =
    let small : x / 256 < 256 ^ k = (div-lt_iff_lt-mul {k = 256} {x = x} {y = 256 ^ k} (omega arith)).1 (rw pow-suc at h) in
    more-snoc (be k (x / 256)) 0 (x % 256) ∙ rw (number-be k (x / 256) small) (div-add-mod' x 256)

pub be-number : (k : ℕ) (l : List ℕ) → length l ≡ k → Bytes l → be k (number l) ≡ l
unfolding be
be-number zero [] h bytes = refl
be-number zero (b ∷ l) h bytes = absurd (omega arith)
be-number (suc k) l h bytes =
    let p : List ℕ = take k l in
    let b : ℕ = get_or l k 0 in
    let lp : length p ≡ k = length-take-le k l (omega arith) in
    let cut : l ≡ p ++ (b ∷ []) = sym (take_all (suc k) l (omega arith)) ∙ take-suc l k 0 (omega arith) in
    let small : b < 256 = bytes k (omega arith) in
    let whole : number l ≡ number p * 256 + b = ap number cut ∙ more-snoc p 0 b in
    let rest : be k (number p) ≡ p = be-number k p lp (λ i hi. rw (get_or-take k l i 0 (omega arith)) (bytes i (omega arith))) in
    rw (whole, digits_div (number p) small, digits_mod (number p) small, rest) (sym cut)

more-below : (l : List ℕ) (x : ℕ) → Bytes l → more x l < (x + 1) * 256 ^ length l
unfolding more
more-below [] x bytes = omega arith
more-below (b ∷ l) x bytes =
    let p = 256 ^ length l in
    let small : b < 256 = bytes 0 (omega arith) in
    let rest = more-below l (x * 256 + b) (λ i h. bytes (suc i) (omega arith)) in
    let le : (x * 256 + b + 1) * p ≤ (x + 1) * 256 * p = mul-le-mul_right p (omega arith) in
    let e : (x + 1) * 256 ^ length (b ∷ l) ≡ (x + 1) * 256 * p = rw (pow-suc 256 (length l), mul_comm p 256) (sym (mul_assoc (x + 1) 256 p)) in
    omega arith

pub number-below : (l : List ℕ) → Bytes l → number l < 256 ^ length l
number-below l bytes = let h = more-below l 0 bytes in let z : (0 + 1) * 256 ^ length l ≡ 256 ^ length l = one-mul (256 ^ length l) in omega arith

-- ---- numbers in parts

-- two bytes
pub number-two : (l : List ℕ) → length l ≡ 2 → number l ≡ get_or l 0 0 * 256 + get_or l 1 0
unfolding more
number-two [] h = absurd (omega arith)
number-two (a ∷ []) h = absurd (omega arith)
number-two (a ∷ b ∷ []) h = omega arith
number-two (a ∷ b ∷ c ∷ l) h = absurd (omega arith)

more-from : (l : List ℕ) (x : ℕ) → more x l ≡ x * 256 ^ length l + number l
unfolding more
more-from [] x = omega arith
more-from (b ∷ l) x =
    let p = more-from l (x * 256 + b) in
    let q = more-from l b in
    let w = 256 ^ length l in
    let e : (x * 256 + b) * w ≡ x * (w * 256) + b * w = rw (add-mul, mul_assoc, mul_comm 256 w) in
    rw (pow-suc, zero-mul, zero-add) (omega arith)

more-append : (l r : List ℕ) (x : ℕ) → more x (l ++ r) ≡ more (more x l) r
unfolding more
more-append [] r x = refl
more-append (b ∷ l) r x = more-append l r (x * 256 + b)

-- a part after another
pub number_append : (l r : List ℕ) → number (l ++ r) ≡ number l * 256 ^ length r + number r
number_append l r = more-append l r 0 ∙ more-from r (number l)
