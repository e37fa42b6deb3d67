-- Every call of numbers below 2^64 has a line that says it.
-- Assumes nothing.
use mathlib.Core.Path.{◌≡◌, refl, ap}
use mathlib.Core.Bool.{Bool, true, false, ◌&&◌}
use mathlib.Core.List.{List, [], ◌∷◌, ◌++◌}
use Rattle.std.specs.Prelude.{Some}
use Prim.Native.Nat.{ℕ, ◌^◌, ◌≤◌, ◌<◌}
use native.Mathlib.Omega.{arith}
use borrow.Author.Tests.{leb-true, le-leb, ne_eqb}
use lib.Dec.{leb}
use lib.ListN.{length, length-append}
use Rattle.script_lines.specs.Fields.{fields, digit, digits, numbers_of}
use Rattle.script_lines.specs.Forms.{spoken_in, line_in}
use Rattle.script_lines.specs.Script.{said, spoken, line_of}
use Rattle.script_texts.specs.Answers.{digits_of}
use Rattle.calls.specs.declared.Request.TheVariants.{Free, Allocate, Reserve}
use Rattle.script_lines.specs.declared.parse.Line.{Line}
use Rattle.script_lines.specs.declared.parse.Line.TheVariants.{Asks}
use Rattle.script_texts.proofs.Decimal.{all_digits, reads-back, at-most-twenty}

-- the line of each call
abbrev pub free : ℕ → ℕ → Line
free x y = Asks (Free (record { 0 = x }) y)

abbrev pub allocate : ℕ → ℕ → Line
allocate x y = Asks (Allocate x y)

abbrev pub reserve : ℕ → ℕ → ℕ → Line
reserve x y z = Asks (Reserve (record { 0 = x }) y z)

parts : (x y : Bool) → (x && y) ≡ true → (x ≡ true) × (y ≡ true)
parts true y h = (refl, h)
parts false y h = absurd (let z : ◌≡◌ {A = ℕ} 0 1 = cc in omega arith)

no-space : (b : ℕ) → digit b ≡ true → b ≡ 32 → ⊥
no-space b h e = omega (arith, leb-true 48 b (parts (leb 48 b) (leb b 57) h).0)

-- digits, and what follows them after a space
then : (d l : List ℕ) → digits d ≡ true → fields (d ++ 32 ∷ l) ≡ d ∷ fields l
unfolding fields digits
then [] l h = refl
then (b ∷ d) l h =
    let p = parts (digit b) (digits d) h in
    rw (ne_eqb b 32 (no-space b p.0), then d l p.1)

alone : (d : List ℕ) → digits d ≡ true → fields d ≡ d ∷ []
unfolding fields digits
alone [] h = refl
alone (b ∷ d) h =
    let p = parts (digit b) (digits d) h in
    rw (ne_eqb b 32 (no-space b p.0), alone d p.1)

-- a letter, and numbers after one space each
abbrev pub two : ℕ → ℕ → ℕ → List ℕ
two c x y = c ∷ 32 ∷ digits_of x ++ 32 ∷ digits_of y

abbrev pub three : ℕ → ℕ → ℕ → ℕ → List ℕ
three c x y z = c ∷ 32 ∷ digits_of x ++ (32 ∷ (digits_of y ++ (32 ∷ digits_of z)))

module _ (x y : ℕ) (hx : x < 2 ^ 64) (hy : y < 2 ^ 64) where
  two-short : (c : ℕ) → length (two c x y) ≤ 80
  two-short c = omega (arith, length-append (digits_of x) (32 ∷ digits_of y), at-most-twenty x hx, at-most-twenty y hy)

  two-numbers : numbers_of (fields (digits_of x ++ 32 ∷ digits_of y)) ≡ Some (x ∷ y ∷ [])
  unfolding numbers_of
  two-numbers = rw (then (digits_of x) (digits_of y) (all_digits x), alone (digits_of y) (all_digits y), reads-back x hx, reads-back y hy)

  pub free-line : line_of (two 102 x y) ≡ free x y
  unfolding line_in fields spoken_in said
  free-line = rw (le-leb (length (two 102 x y)) 80 (two-short 102)) (ap (spoken 102) two-numbers)

  pub allocate-line : line_of (two 97 x y) ≡ allocate x y
  unfolding line_in fields spoken_in said
  allocate-line = rw (le-leb (length (two 97 x y)) 80 (two-short 97)) (ap (spoken 97) two-numbers)

  module _ (z : ℕ) (hz : z < 2 ^ 64) where
    three-short : length (three 114 x y z) ≤ 80
    three-short = omega (arith, length-append (digits_of x) (32 ∷ (digits_of y ++ (32 ∷ digits_of z))), length-append (digits_of y) (32 ∷ digits_of z), at-most-twenty x hx, at-most-twenty y hy, at-most-twenty z hz)

    three-numbers : numbers_of (fields (digits_of x ++ (32 ∷ (digits_of y ++ (32 ∷ digits_of z))))) ≡ Some (x ∷ y ∷ z ∷ [])
    unfolding numbers_of
    three-numbers =
        rw (then (digits_of x) (digits_of y ++ (32 ∷ digits_of z)) (all_digits x), then (digits_of y) (digits_of z) (all_digits y), alone (digits_of z) (all_digits z), reads-back x hx, reads-back y hy, reads-back z hz)

    pub reserve-line : line_of (three 114 x y z) ≡ reserve x y z
    unfolding line_in fields spoken_in said
    reserve-line = rw (le-leb (length (three 114 x y z)) 80 three-short) (ap (spoken 114) three-numbers)
