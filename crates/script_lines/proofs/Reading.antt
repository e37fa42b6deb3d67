-- Laws of a field at a place, of the numbers from a place on, and of the whole line: one for each way through the code.
-- The laws of a line are of any forms. Assumes nothing.
use mathlib.Core.Path.{◌≡◌, refl, sym, ◌∙◌, ap}
use mathlib.Core.Bool.{Bool, true, false, cond}
use mathlib.Core.List.{List, [], ◌∷◌}
use mathlib.Core.Logic.{◌⊎◌, inl, inr, ⊎_elim}
use Prim.Native.Nat.{ℕ, ◌+◌, ◌-◌, ◌≤◌, ◌<◌}
use native.Mathlib.Omega.{arith}
use lib.Dec.{eqb, ltb}
use lib.ListN.{length, take, drop, get_or}
use lib.Seq.{length-take-le, take_all}
use borrow.Author.Tests.{le-leb, lt-leb, ltb-true, ltb-false, eq-eqb, ne_eqb, eqb-true}
use Rattle.std.specs.Prelude.{Option, Some, None}
use Rattle.script_lines.specs.Search.{first_in}
use Rattle.script_lines.specs.Fields.{before, fields, leads, number_of, join, numbers_of}
use Rattle.script_lines.specs.Forms.{spoken_in, fields_in, line_in}
use Rattle.script_lines.specs.Steps.{first, field_end_lem, ended, field_at}
use Rattle.script_lines.specs.declared.parse.Field.{Field}
use Rattle.script_lines.proofs.Splits.{Ends, ends}
use Rattle.script_lines.proofs.Numbers.{empty}

-- ---- a field

pub field-ends : (l : List ℕ) (at : ℕ) → Ends l at (field_end_lem l at)
field-ends l at = ends l at (first_in 32 at (length l) l) refl

pub past-line : (l : List ℕ) (at e : ℕ) → e ≡ field_end_lem l at → e < at → field_at l at ≡ None
unfolding field_at fields number_of leads
past-line l at e is h =
    let empty-rest : drop at l ≡ [] = (field-ends l at).none (omega arith) in
    ap (λ (m : List ℕ). ended (field_end_lem l at) (number_of (first (fields m)))) empty-rest

module _ (l : List ℕ) (at e : ℕ) (is : e ≡ field_end_lem l at) (h : at ≤ e) where
  at_part : field_at l at ≡ ended e (number_of (take (e - at) (drop at l)))
  unfolding field_at
  at_part = rw is (ap (λ (f : List ℕ). ended (field_end_lem l at) (number_of f)) ((field-ends l at).part (omega arith)))

  pub number-there : (n : ℕ) → number_of (take (e - at) (drop at l)) ≡ Some n → field_at l at ≡ Some (record { value = n; end = e })
  number-there n r = at_part ∙ ap (ended e) r

  pub no-number-there : number_of (take (e - at) (drop at l)) ≡ None → field_at l at ≡ None
  no-number-there r = at_part ∙ ap (ended e) r

-- ---- the numbers of the fields from a place on

ended_is : (e : ℕ) (o : Option ℕ) (x : Field) → ended e o ≡ Some x → (o ≡ Some x.value) × (e ≡ x.end)
ended_is e None x r = absurd (let z : ◌≡◌ {A = ℕ} 0 1 = cc in omega arith)
ended_is e (Some n) x r = let q : x ≡ record { value = n; end = e } = cc in (rw q, rw q)

ended-not : (e : ℕ) (o : Option ℕ) → ended e o ≡ None → o ≡ None
ended-not e None r = refl
ended-not e (Some n) r = absurd (let z : ◌≡◌ {A = ℕ} 0 1 = cc in omega arith)

abbrev rest : List (List ℕ) → List (List ℕ)
rest [] = []
rest (f ∷ fs) = fs

some-field : (l : List ℕ) → fields l ≡ first (fields l) ∷ rest (fields l)
unfolding fields
some-field [] = refl
some-field (b ∷ l) = by-test (eqb b 32) (fields l)
  where
    by-test : (t : Bool) (fs : List (List ℕ)) → cond t ([] ∷ fs) (before b fs) ≡ first (cond t ([] ∷ fs) (before b fs)) ∷ rest (cond t ([] ∷ fs) (before b fs))
    by-test true fs = refl
    by-test false [] = refl
    by-test false (f ∷ fs) = refl

abbrev numbers : List ℕ → ℕ → Option (List ℕ)
numbers l at = numbers_of (fields (drop at l))

module _ (l : List ℕ) (at : ℕ) where
  stops : field_at l at ≡ None → numbers l at ≡ None
  unfolding field_at numbers_of
  stops p = ap numbers_of (some-field (drop at l)) ∙ rw (ended-not (field_end_lem l at) (number_of (first (fields (drop at l)))) p)

  module _ (x : Field) (p : field_at l at ≡ Some x) where
    last : length l ≤ x.end → numbers l at ≡ Some (x.value ∷ [])
    unfolding field_at numbers_of
    last h =
        let q = ended_is (field_end_lem l at) (number_of (first (fields (drop at l)))) x p in
        ap numbers_of ((field-ends l at).last (omega (arith, q.1))) ∙ rw q.0

    goes_on : x.end < length l → numbers l at ≡ join (Some x.value) (numbers l (x.end + 1))
    unfolding field_at numbers_of
    goes_on h =
        let q = ended_is (field_end_lem l at) (number_of (first (fields (drop at l)))) x p in
        ap numbers_of ((field-ends l at).more (omega (arith, q.1))) ∙ rw (q.0, q.1)

-- ---- a line in any forms

module _ {A : Type 0} (said : ℕ → List ℕ → A) (bad : A) where
  module _ (c : ℕ) (l : List ℕ) (at : ℕ) where
    pub none_read : field_at l at ≡ None → spoken_in said bad c (numbers l at) ≡ bad
    unfolding spoken_in
    none_read p = ap (spoken_in said bad c) (stops l at p)

    module _ (x : Field) (p : field_at l at ≡ Some x) where
      pub one_number : length l ≤ x.end → spoken_in said bad c (numbers l at) ≡ said c (x.value ∷ [])
      unfolding spoken_in
      one_number h = ap (spoken_in said bad c) (last l at x p h)

      module _ (h : x.end < length l) where
        pub one-read : field_at l (x.end + 1) ≡ None → spoken_in said bad c (numbers l at) ≡ bad
        unfolding spoken_in
        one-read q = ap (spoken_in said bad c) (goes_on l at x p h ∙ ap (join (Some x.value)) (stops l (x.end + 1) q))

        module _ (y : Field) (q : field_at l (x.end + 1) ≡ Some y) where
          pub two-numbers : length l ≤ y.end → spoken_in said bad c (numbers l at) ≡ said c (x.value ∷ y.value ∷ [])
          unfolding spoken_in
          two-numbers g = ap (spoken_in said bad c) (goes_on l at x p h ∙ ap (join (Some x.value)) (last l (x.end + 1) y q g))

          module _ (g : y.end < length l) where
            two-more : numbers l at ≡ join (Some x.value) (join (Some y.value) (numbers l (y.end + 1)))
            two-more = goes_on l at x p h ∙ ap (join (Some x.value)) (goes_on l (x.end + 1) y q g)

            pub two-read : field_at l (y.end + 1) ≡ None → spoken_in said bad c (numbers l at) ≡ bad
            unfolding spoken_in
            two-read r = ap (spoken_in said bad c) (two-more ∙ ap (λ (o : Option (List ℕ)). join (Some x.value) (join (Some y.value) o)) (stops l (y.end + 1) r))

            module _ (z : Field) (r : field_at l (y.end + 1) ≡ Some z) where
              pub three-numbers : length l ≤ z.end → spoken_in said bad c (numbers l at) ≡ said c (x.value ∷ y.value ∷ z.value ∷ [])
              unfolding spoken_in
              three-numbers f = ap (spoken_in said bad c) (two-more ∙ ap (λ (o : Option (List ℕ)). join (Some x.value) (join (Some y.value) o)) (last l (y.end + 1) z r f))

              module _ (f : z.end < length l) where
                three-more : numbers l at ≡ join (Some x.value) (join (Some y.value) (join (Some z.value) (numbers l (z.end + 1))))
                three-more = two-more ∙ ap (λ (o : Option (List ℕ)). join (Some x.value) (join (Some y.value) o)) (goes_on l (y.end + 1) z r f)

                -- where no letter has four numbers or more
                pub past_three : ((w : ℕ) (ws : List ℕ) → said c (x.value ∷ y.value ∷ z.value ∷ w ∷ ws) ≡ bad) → spoken_in said bad c (numbers l at) ≡ bad
                unfolding spoken_in numbers_of
                past_three none_has = ap (spoken_in said bad c) (three-more ∙ ap (λ (o : Option (List ℕ)). join (Some x.value) (join (Some y.value) (join (Some z.value) o))) (ap numbers_of (some-field (drop (z.end + 1) l))))
                    ∙ four (number_of (first (fields (drop (z.end + 1) l)))) (numbers_of (rest (fields (drop (z.end + 1) l))))
                  where
                    four : (o : Option ℕ) (os : Option (List ℕ)) → spoken_in said bad c (join (Some x.value) (join (Some y.value) (join (Some z.value) (join o os)))) ≡ bad
                    four None os = refl
                    four (Some w) None = refl
                    four (Some w) (Some ws) = none_has w ws

                pub three-read : field_at l (z.end + 1) ≡ None → spoken_in said bad c (numbers l at) ≡ bad
                unfolding spoken_in
                three-read s = ap (spoken_in said bad c) (three-more ∙ ap (λ (o : Option (List ℕ)). join (Some x.value) (join (Some y.value) (join (Some z.value) o))) (stops l (z.end + 1) s))

                module _ (w : Field) (s : field_at l (z.end + 1) ≡ Some w) where
                  pub four-numbers : length l ≤ w.end → spoken_in said bad c (numbers l at) ≡ said c (x.value ∷ y.value ∷ z.value ∷ w.value ∷ [])
                  unfolding spoken_in
                  four-numbers e = ap (spoken_in said bad c) (three-more ∙ ap (λ (o : Option (List ℕ)). join (Some x.value) (join (Some y.value) (join (Some z.value) o))) (last l (z.end + 1) w s e))

                  pub past-four : w.end < length l → ((v : ℕ) (vs : List ℕ) → said c (x.value ∷ y.value ∷ z.value ∷ w.value ∷ v ∷ vs) ≡ bad) → spoken_in said bad c (numbers l at) ≡ bad
                  unfolding spoken_in numbers_of
                  past-four e none_has =
                      ap (spoken_in said bad c) (three-more ∙ ap (λ (o : Option (List ℕ)). join (Some x.value) (join (Some y.value) (join (Some z.value) o))) (goes_on l (z.end + 1) w s e ∙ ap (join (Some w.value)) (ap numbers_of (some-field (drop (w.end + 1) l)))))
                      ∙ five (number_of (first (fields (drop (w.end + 1) l)))) (numbers_of (rest (fields (drop (w.end + 1) l))))
                    where
                      five : (o : Option ℕ) (os : Option (List ℕ)) → spoken_in said bad c (join (Some x.value) (join (Some y.value) (join (Some z.value) (join (Some w.value) (join o os))))) ≡ bad
                      five None os = refl
                      five (Some v) None = refl
                      five (Some v) (Some vs) = none_has v vs

  -- ---- the whole line

  pub too_long : (l : List ℕ) → 80 < length l → line_in said bad l ≡ bad
  unfolding line_in
  too_long l h = rw (lt-leb (length l) 80 h)

  below? : (m n : ℕ) → (m < n) ⊎ (n ≤ m)
  below? m n = go (ltb m n) refl
    where
      go : (t : Bool) → ltb m n ≡ t → (m < n) ⊎ (n ≤ m)
      go true e = inl (ltb-true m n e)
      go false e = inr (ltb-false m n e)

  -- more bytes than 80 need not be kept
  pub capped : (m : ℕ) (p : List ℕ) → 80 < m → line_in said bad (take m p) ≡ line_in said bad p
  capped m p h = ⊎_elim
      (λ (long : m < length p). too_long (take m p) (let e = length-take-le m p (let k : m ≤ length p = omega arith in k) in omega arith) ∙ sym (too_long p (omega arith)))
      (λ (few : length p ≤ m). ap (line_in said bad) (take_all m p few))
      (below? m (length p))

  short : (l : List ℕ) → length l ≤ 80 → line_in said bad l ≡ fields_in said bad (fields l)
  unfolding line_in
  short l h = rw (le-leb (length l) 80 h)

  -- neither 0 nor a space is a letter of these forms
  module _ (no-letter : (ns : List ℕ) → (said 0 ns ≡ bad) × (said 32 ns ≡ bad)) where
    nameless : (o : Option (List ℕ)) → spoken_in said bad 0 o ≡ bad
    unfolding spoken_in
    nameless None = refl
    nameless (Some ns) = (no-letter ns).0

    space : (c : ℕ) (o : Option (List ℕ)) → eqb c 32 ≡ true → spoken_in said bad c o ≡ bad
    unfolding spoken_in
    space c None e = refl
    space c (Some ns) e = rw (eqb-true c 32 e) (no-letter ns).1

    pub no_bytes : (l : List ℕ) → length l ≡ 0 → line_in said bad l ≡ bad
    unfolding fields numbers_of
    no_bytes l h = ap (line_in said bad) (empty l h) ∙ short [] (omega arith) ∙ nameless (Some [])

    pub one_byte : (l : List ℕ) → length l ≡ 1 → line_in said bad l ≡ said (get_or l 0 0) []
    unfolding fields numbers_of number_of leads spoken_in
    one_byte [] h = absurd (omega arith)
    one_byte (b ∷ []) h = short (b ∷ []) (omega arith) ∙ by-test (eqb b 32) refl
      where
        by-test : (t : Bool) → eqb b 32 ≡ t → fields_in said bad (cond t ([] ∷ [] ∷ []) ((b ∷ []) ∷ [])) ≡ said b []
        by-test true e = sym (space b (Some []) e)
        by-test false e = refl
    one_byte (b ∷ c ∷ l) h = absurd (omega arith)

    pub no-space : (l : List ℕ) → length l ≤ 80 → 1 < length l → (get_or l 1 0 ≡ 32 → ⊥) → line_in said bad l ≡ bad
    unfolding fields
    no-space [] s h n = absurd (omega arith)
    no-space (b ∷ []) s h n = absurd (omega arith)
    no-space (b ∷ c ∷ l) s h n = short (b ∷ c ∷ l) s ∙ rw (ne_eqb c 32 n) (by-test (eqb b 32) (fields l))
      where
        by-test : (t : Bool) (fs : List (List ℕ)) → fields_in said bad (cond t ([] ∷ before c fs) (before b (before c fs))) ≡ bad
        by-test true fs = nameless (numbers_of (before c fs))
        by-test false [] = nameless (numbers_of [])
        by-test false (f ∷ fs) = nameless (numbers_of fs)

    pub one-letter : (l : List ℕ) → length l ≤ 80 → 1 < length l → get_or l 1 0 ≡ 32 → line_in said bad l ≡ spoken_in said bad (get_or l 0 0) (numbers_of (fields (drop 2 l)))
    unfolding fields
    one-letter [] s h n = absurd (omega arith)
    one-letter (b ∷ []) s h n = absurd (omega arith)
    one-letter (b ∷ c ∷ l) s h n = short (b ∷ c ∷ l) s ∙ rw (eq-eqb c 32 n) (by-test (eqb b 32) refl)
      where
        by-test : (t : Bool) → eqb b 32 ≡ t → fields_in said bad (cond t ([] ∷ [] ∷ fields l) (before b ([] ∷ fields l))) ≡ spoken_in said bad b (numbers_of (fields l))
        by-test true e = nameless (numbers_of ([] ∷ fields l)) ∙ sym (space b (numbers_of (fields l)) e)
        by-test false e = refl
