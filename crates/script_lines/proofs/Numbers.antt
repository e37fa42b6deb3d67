-- Laws of the number that a field says.
-- Assumes nothing.
use mathlib.Core.Path.{◌≡◌, refl, ap}
use mathlib.Core.Bool.{Bool, true, false, not, cond, ◌&&◌}
use mathlib.Core.List.{List, [], ◌∷◌}
use Prim.Native.Nat.{ℕ, suc, ◌+◌, ◌-◌, ◌*◌, ◌^◌, ◌≤◌, ◌<◌}
use native.Mathlib.Numerals.{add-one}
use native.Mathlib.Omega.{arith}
use lib.Dec.{ltb, eqb}
use lib.ListN.{length, drop, get_or}
use lib.Seq.{drop-cons}
use borrow.Author.Tests.{ltb-true, ltb-false, lt-ltb, le-ltb}
use Rattle.std.specs.Prelude.{Option, Some, None, SomeIff}
use Rattle.script_lines.specs.Fields.{digit, digits, leads, value, number_of}
use Rattle.script_lines.specs.Steps.{value_from}

value_grows : (l : List ℕ) (n : ℕ) → n ≤ value n l
unfolding value
value_grows [] n = omega arith
value_grows (b ∷ l) n = let h = value_grows l (n * 10 + (b - 48)) in omega arith

and_no : (a : Bool) → (a && false) ≡ false
and_no true = refl
and_no false = refl

abbrev big : ℕ
big = 2 ^ 64

goes_on : (d t : Bool) (v m : ℕ) (l : List ℕ) → cond ((d && true) && t) (Some v) None ≡ Some m → cond ((d && digits l) && ltb (value v l) big) (Some (value v l)) None ≡ value_from m l
unfolding value_from
goes_on true true v m l h = let q : v ≡ m = cc in rw q
goes_on true false v m l h = absurd (let z : ◌≡◌ {A = ℕ} 0 1 = cc in omega arith)
goes_on false t v m l h = absurd (let z : ◌≡◌ {A = ℕ} 0 1 = cc in omega arith)

stops : (d t : Bool) (v : ℕ) (l : List ℕ) → ltb v big ≡ t → ◌≡◌ {A = Option ℕ} (cond ((d && true) && t) (Some v) None) None → ◌≡◌ {A = Option ℕ} (cond ((d && digits l) && ltb (value v l) big) (Some (value v l)) None) None
stops true true v l e h = absurd (let z : ◌≡◌ {A = ℕ} 0 1 = cc in omega arith)
stops true false v l e h =
    let g : ltb (value v l) big ≡ false = le-ltb (value v l) big (omega (arith, ltb-false v big e, value_grows l v)) in
    rw (g, and_no (digits l))
stops false t v l e h = refl

-- a digit that is taken, and one that is not
taken : (n b m : ℕ) (l : List ℕ) → value_from n (b ∷ []) ≡ Some m → value_from n (b ∷ l) ≡ value_from m l
unfolding value_from digits value
taken n b m l h = goes_on (digit b) (ltb (n * 10 + (b - 48)) big) (n * 10 + (b - 48)) m l h

refused : (n b : ℕ) (l : List ℕ) → value_from n (b ∷ []) ≡ None → value_from n (b ∷ l) ≡ None
unfolding value_from digits value
refused n b l h = stops (digit b) (ltb (n * 10 + (b - 48)) big) (n * 10 + (b - 48)) l refl h

small : (n m : ℕ) (l : List ℕ) → value_from n l ≡ Some m → m < big
unfolding value_from
small n m l = by-test (digits l) (ltb (value n l) big) refl
  where
    by-test : (d t : Bool) → ltb (value n l) big ≡ t → cond (d && t) (Some (value n l)) None ≡ Some m → m < big
    by-test true true e h = let q : value n l ≡ m = cc in omega (arith, ltb-true (value n l) big e)
    by-test true false e h = absurd (let z : ◌≡◌ {A = ℕ} 0 1 = cc in omega arith)
    by-test false t e h = absurd (let z : ◌≡◌ {A = ℕ} 0 1 = cc in omega arith)

module _ (l : List ℕ) (i n : ℕ) (h : i < length l) where
  pub after-taken : (m : ℕ) → value_from n (get_or l i 0 ∷ []) ≡ Some m → (m < big) × (value_from n (drop i l) ≡ value_from m (drop (i + 1) l))
  after-taken m q = (small n m (get_or l i 0 ∷ []) q, rw (drop-cons l i 0 h, taken n (get_or l i 0) m (drop (suc i) l) q, add-one i))

  pub after-refused : value_from n (get_or l i 0 ∷ []) ≡ None → value_from n (drop i l) ≡ None
  after-refused e = rw (drop-cons l i 0 h, refused n (get_or l i 0) (drop (suc i) l) e)

pub all_read : (n : ℕ) → n < big → value_from n [] ≡ Some n
unfolding value_from digits value
all_read n h = rw (lt-ltb n big h)

-- what a sum that is checked answers of one digit more
pub fitting : (n b : ℕ) (o : Option ℕ) → digit b ≡ true → SomeIff o (n * 10 + (b - 48) < big) (n * 10 + (b - 48)) → o ≡ value_from n (b ∷ [])
unfolding value_from digits value
fitting n b None d h = rw (d, le-ltb (n * 10 + (b - 48)) big (omega (arith, h)))
fitting n b (Some m) d h = rw (d, lt-ltb (n * 10 + (b - 48)) big h.0) (ap Some h.1)

-- ---- leading zeros

pub led : (l : List ℕ) → leads l ≡ true → number_of l ≡ value_from 0 l
unfolding number_of value_from
led l e = rw e

pub not-led : (l : List ℕ) → leads l ≡ false → number_of l ≡ None
unfolding number_of
not-led l e = rw e

pub leads_one : (l : List ℕ) → length l ≡ 1 → leads l ≡ true
unfolding leads
leads_one [] e = absurd (omega arith)
leads_one (b ∷ []) e = refl
leads_one (b ∷ c ∷ l) e = absurd (omega arith)

pub leads-many : (l : List ℕ) → 1 < length l → leads l ≡ not (eqb (get_or l 0 0) 48)
unfolding leads
leads-many [] h = absurd (omega arith)
leads-many (b ∷ []) h = absurd (omega arith)
leads-many (b ∷ c ∷ l) h = refl

pub empty : (l : List ℕ) → length l ≡ 0 → l ≡ []
empty [] e = refl
empty (b ∷ l) e = absurd (omega arith)

pub no-digits : (l : List ℕ) → length l ≡ 0 → number_of l ≡ None
unfolding leads
no-digits l e = not-led l (ap leads (empty l e))
