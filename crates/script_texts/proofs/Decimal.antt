-- What is printed of a number: it reads back, has no leading zero and at most 20 digits below 2^64.
-- Assumes nothing.
use mathlib.Core.Path.{◌≡◌, refl, ◌∙◌, ap}
use mathlib.Core.Bool.{Bool, true, false, ◌&&◌}
use mathlib.Core.List.{List, [], ◌∷◌, ◌++◌, append_assoc}
use Rattle.std.specs.Prelude.{Some}
use Prim.Native.Nat.{ℕ, zero, suc, ◌+◌, ◌-◌, ◌*◌, ◌/◌, ◌%◌, ◌^◌, ◌≤◌, ◌<◌}
use native.Mathlib.Numerals.{sub-one}
use native.Mathlib.Omega.{arith}
use lib.Dec.{ltb}
use lib.ListN.{length, drop, set, get_or, length-append, length-set, get_or-append}
use lib.Seq.{drop-cons, drop-set-lt, get_or-set_same}
use borrow.Author.Tests.{ltb-true, ltb-false, lt-ltb, le-ltb, le-leb, ne_eqb}
use Rattle.script_lines.specs.Fields.{digit, digits, leads, value, number_of}
use Rattle.script_texts.specs.Answers.{digits_in, digits_of}

-- ---- the two ways that a number is printed

same_step : (t : Bool) (j k n : ℕ) → ltb n 10 ≡ t → (10 ≤ n → digits_in j (n / 10) ≡ digits_in k (n / 10)) → digits_in (suc j) n ≡ digits_in (suc k) n
unfolding digits_in
same_step true j k n e h = rw e
same_step false j k n e h = rw (e, h (ltb-false n 10 e))

same : (j k n : ℕ) → n ≤ j → n ≤ k → digits_in j n ≡ digits_in k n
unfolding digits_in
same zero zero n p q = refl
same zero (suc k) n p q = let e : n ≡ 0 = omega arith in rw e
same (suc j) zero n p q = let e : n ≡ 0 = omega arith in rw e
same (suc j) (suc k) n p q = same_step (ltb n 10) j k n refl (λ h. same j k (n / 10) (omega arith) (omega arith))

pub one-digit : (n : ℕ) → n < 10 → digits_of n ≡ (48 + n) ∷ []
unfolding digits_of digits_in
one-digit zero h = refl
one-digit (suc n) h = rw (lt-ltb (suc n) 10 h)

pub more-digits : (n : ℕ) → 10 ≤ n → digits_of n ≡ digits_of (n / 10) ++ ((48 + n % 10) ∷ [])
unfolding digits_of digits_in
more-digits zero h = absurd (omega arith)
more-digits (suc n) h = rw (le-ltb (suc n) 10 h, same n (suc n / 10) (suc n / 10) (omega arith) (omega arith))

-- ---- so what holds of one digit, and of a digit more, holds of all

module _ (P : ℕ → Type 0) (one : (n : ℕ) → n < 10 → P n) (more : (n : ℕ) → 10 ≤ n → P (n / 10) → P n) where
  by-test : (t : Bool) (n : ℕ) → ltb n 10 ≡ t → (10 ≤ n → P (n / 10)) → P n
  by-test true n e h = one n (ltb-true n 10 e)
  by-test false n e h = more n (ltb-false n 10 e) (h (ltb-false n 10 e))

  below : (k n : ℕ) → n ≤ k → P n
  below zero n p = one n (omega arith)
  below (suc k) n p = by-test (ltb n 10) n refl (λ h. below k (n / 10) (omega arith))

  pub each : (n : ℕ) → P n
  each n = below n n (omega arith)

pub some-digit : (n : ℕ) → 0 < length (digits_of n)
some-digit = each (λ (n : ℕ). 0 < length (digits_of n)) (λ n h. rw (one-digit n h) (omega arith)) (λ n h p. rw (more-digits n h, length-append) (omega arith))

pub one-long : (n : ℕ) → n < 10 → length (digits_of n) ≡ 1
one-long n h = ap length (one-digit n h)

pub longer-by-one : (n : ℕ) → 10 ≤ n → length (digits_of n) ≡ length (digits_of (n / 10)) + 1
longer-by-one n h = ap length (more-digits n h) ∙ length-append (digits_of (n / 10)) ((48 + n % 10) ∷ [])

width_of : (n j : ℕ) → n < 10 ^ suc j → length (digits_of n) ≤ suc j
width_of = each (λ (n : ℕ). (j : ℕ) → n < 10 ^ suc j → length (digits_of n) ≤ suc j) (λ n h j p. rw (one-digit n h) (omega arith)) longer
  where
    longer : (n : ℕ) → 10 ≤ n → ((j : ℕ) → n / 10 < 10 ^ suc j → length (digits_of (n / 10)) ≤ suc j) → (j : ℕ) → n < 10 ^ suc j → length (digits_of n) ≤ suc j
    longer n h p zero g = absurd (omega arith)
    longer n h p (suc j) g = let q = p j (omega arith) in rw (more-digits n h, length-append) (omega arith)

pub at-most-twenty : (n : ℕ) → n < 2 ^ 64 → length (digits_of n) ≤ 20
at-most-twenty n h = width_of n 19 (omega arith)

-- ---- written from the last digit to the first

put-at : (k n : ℕ) (l : List ℕ) → 10 ≤ n → k < length l → digits_of (n / 10) ++ drop k (set l k (48 + n % 10)) ≡ digits_of n ++ drop (suc k) l
put-at k n l big h =
    let d : ℕ = 48 + n % 10 in
    let h' : k < length (set l k d) = simp length-set h in
    rw (drop-cons (set l k d) k 0 h', get_or-set_same l k d 0 h, drop-set-lt (suc k) l k d (omega arith), more-digits n big, append_assoc)

pub put-before : (i n : ℕ) (l : List ℕ) → 10 ≤ n → 0 < i → i ≤ length l → digits_of (n / 10) ++ drop (i - 1) (set l (i - 1) (48 + n % 10)) ≡ digits_of n ++ drop i l
put-before zero n l big p h = absurd (omega arith)
put-before (suc k) n l big p h = rw sub-one (put-at k n l big (omega arith))

pub put_first : (n : ℕ) (l : List ℕ) → n < 10 → 0 < length l → set l 0 (48 + n) ≡ digits_of n ++ drop 1 l
put_first n [] small h = absurd (omega arith)
put_first n (b ∷ l) small h = rw (one-digit n small)

-- ---- no leading zero

pub no-leading-zero : (n : ℕ) → 0 < n → 48 < get_or (digits_of n) 0 0
no-leading-zero = each (λ (n : ℕ). 0 < n → 48 < get_or (digits_of n) 0 0) (λ n h p. rw (one-digit n h) (omega arith))
    (λ n h p q. rw (more-digits n h, get_or-append (digits_of (n / 10)) ((48 + n % 10) ∷ []) 0 0 (some-digit (n / 10))) (p (omega arith)))

leads-first : (l : List ℕ) → 48 < get_or l 0 0 → leads l ≡ true
unfolding leads
leads-first [] h = absurd (omega arith)
leads-first (b ∷ []) h = refl
leads-first (b ∷ c ∷ l) h = let e : (b ≡ 48) → ⊥ = λ q. omega arith in rw (ne_eqb b 48 e)

leads-digits : (n : ℕ) → leads (digits_of n) ≡ true
unfolding leads digits_of digits_in
leads-digits zero = refl
leads-digits (suc n) = leads-first (digits_of (suc n)) (no-leading-zero (suc n) (omega arith))

-- ---- what is printed reads back

value-last : (l : List ℕ) (n b : ℕ) → value n (l ++ (b ∷ [])) ≡ value n l * 10 + (b - 48)
unfolding value
value-last [] n b = refl
value-last (c ∷ l) n b = value-last l (n * 10 + (c - 48)) b

digits_last : (l : List ℕ) (b : ℕ) → digits l ≡ true → digit b ≡ true → digits (l ++ (b ∷ [])) ≡ true
unfolding digits
digits_last [] b h g = rw g
digits_last (c ∷ l) b h g = both (digit c) (digits l) (digits (l ++ (b ∷ []))) h (λ e. digits_last l b e g)
  where
    both : (x y z : Bool) → (x && y) ≡ true → (y ≡ true → z ≡ true) → (x && z) ≡ true
    both true y z p q = q p
    both false y z p q = p

digit-of : (n : ℕ) → n < 10 → digit (48 + n) ≡ true
digit-of n h = rw (le-leb 48 (48 + n) (omega arith), le-leb (48 + n) 57 (omega arith))

value-back : (n : ℕ) → value 0 (digits_of n) ≡ n
unfolding value
value-back = each (λ (n : ℕ). value 0 (digits_of n) ≡ n) (λ n h. rw (one-digit n h) (omega arith)) (λ n h p. rw (more-digits n h, value-last, p) (omega arith))

pub all_digits : (n : ℕ) → digits (digits_of n) ≡ true
unfolding digits
all_digits = each (λ (n : ℕ). digits (digits_of n) ≡ true) (λ n h. rw (one-digit n h, digit-of n h))
    (λ n h p. rw (more-digits n h) (digits_last (digits_of (n / 10)) (48 + n % 10) p (digit-of (n % 10) (omega arith))))

pub reads-back : (n : ℕ) → n < 2 ^ 64 → number_of (digits_of n) ≡ Some n
unfolding number_of
reads-back n h = rw (leads-digits n, all_digits n, value-back n, lt-ltb n (2 ^ 64) h)
