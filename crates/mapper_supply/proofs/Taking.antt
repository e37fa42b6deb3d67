-- One page from a sound book: it is whole, was free, and is not free afterwards. n is the number of records. Assumes nothing.
use mathlib.Core.Path.{◌≡◌, refl, sym, subst}
use mathlib.Core.Bool.{Bool, true, false, cond, ◌&&◌}
use Prim.Native.Nat.{ℕ, zero, suc, ◌+◌, ◌-◌, ◌/◌, ◌%◌, ◌^◌, ◌<◌}
use native.Mathlib.Omega.{arith}
use native.Mathlib.Nat.{mul-mod_left}
use lib.Dec.{T, leb, ltb, eqb, le→leb, lt→ltb, eqb_refl}
use Rattle.rules.specs.Rules.{Book, up, free_at, Answer, Call, Allocate, step, voucher, covers}
use Rattle.rules.specs.Sound.{Sound}
use Rattle.rules_laws.proofs.Lists.{and_i}
use Rattle.rules_laws.proofs.Steps.{step-sound, step-free, step-covers}
use Rattle.rules_laws.proofs.Multiples.{allocate-address}

-- a page, from a multiple of 4096
abbrev pub one : Call
one = Allocate 4096 12

up-page : (x : ℕ) → up 12 x % 4096 ≡ 0
unfolding up
up-page x = mul-mod_left ((x + (2 ^ 12 - 1)) / 2 ^ 12) (2 ^ 12)

is_true : (c : Bool) → c ≡ true → T c
is_true true e = tt
is_true false e = subst T (sym e) tt

if-free : (c d : Bool) → T (cond c false d) → T d
if-free true d t = absurd t
if-free false d t = t

if-gone : (c d : Bool) → T c → T (cond c false d) → ⊥
if-gone true d u t = t
if-gone false d u t = u

module _ (n : ℕ) (b : Book) (s : Sound n b) where
  abbrev answer : Answer
  answer = step n one b

  pub page-whole : answer.address % 4096 ≡ 0
  unfolding step
  page-whole = allocate-address (λ (y : ℕ). y % 4096 ≡ 0) refl n 4096 12 b s (λ r i. up-page r.start)

  -- what is free afterwards was free before
  pub page-less : (x : ℕ) → T (free_at answer.book x) → T (free_at b x)
  page-less x t = if-free (covers (voucher one answer) x) (free_at b x) (subst T (step-free n b one s x) t)

  module _ (accepted : answer.number ≡ 0) (i : ℕ) (inside : i < 4096) where
    covered : T (covers (voucher one answer) (answer.address + i))
    covered =
        let x = answer.address in
        and_i (eqb answer.number 0) (leb x (x + i) && ltb (x + i) (x + 4096)) (rw accepted (eqb_refl 0))
        (and_i (leb x (x + i)) (ltb (x + i) (x + 4096)) (le→leb x (x + i) (omega arith)) (lt→ltb (x + i) (x + 4096) (omega arith)))

    pub page-free : T (free_at b (answer.address + i))
    page-free = is_true (free_at b (answer.address + i)) (step-covers n b one s (answer.address + i) covered)

    pub page-gone : T (free_at answer.book (answer.address + i)) → ⊥
    page-gone t = if-gone (covers (voucher one answer) (answer.address + i)) (free_at b (answer.address + i)) covered (subst T (step-free n b one s (answer.address + i)) t)

-- ---- k pages, whether they are to be had or not

unfoldable pub book_after : ℕ → ℕ → Book → Book
book_after n zero b = b
book_after n (suc k) b = (step n one (book_after n k b)).book

module _ (n : ℕ) (b : Book) (s : Sound n b) where
  pub sound-after : (k : ℕ) → Sound n (book_after n k b)
  unfolding book_after
  sound-after zero = s
  sound-after (suc k) = step-sound n (book_after n k b) one (sound-after k)

  pub less-after : (j k x : ℕ) → T (free_at (book_after n (k + j) b) x) → T (free_at (book_after n j b) x)
  unfolding book_after
  less-after j zero x t = subst (λ (m : ℕ). T (free_at (book_after n m b) x)) (let e : 0 + j ≡ j = omega arith in e) t
  less-after j (suc k) x t =
      less-after j k x (page-less n (book_after n (k + j) b) (sound-after (k + j)) x
      (subst (λ (m : ℕ). T (free_at (book_after n m b) x)) (let e : suc k + j ≡ suc (k + j) = omega arith in e) t))
