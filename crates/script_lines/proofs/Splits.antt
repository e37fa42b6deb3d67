-- Laws of the search for a byte, and of the fields between spaces.
-- Assumes nothing.
use mathlib.Core.Path.{◌≡◌, refl, sym, ◌∙◌, ap}
use mathlib.Core.Bool.{Bool, true, false, cond}
use mathlib.Core.List.{List, [], ◌∷◌}
use Prim.Native.Nat.{ℕ, suc, ◌+◌, ◌-◌, ◌≤◌, ◌<◌, min}
use native.Mathlib.Numerals.{add-one}
use native.Mathlib.Omega.{arith}
use lib.Dec.{eqb}
use lib.ListN.{length, take, drop, get_or, length-drop, length-take, drop_of_length-le}
use lib.Seq.{drop-cons, drop-drop, take_all}
use Rattle.std.specs.Prelude.{Option, Some, None, unwrap_or}
use Rattle.script_lines.specs.Search.{first_from, first_in}
use Rattle.script_lines.specs.Fields.{fields}
use Rattle.script_lines.specs.Steps.{first}
use Rattle.script_lines.proofs.Numbers.{empty}

-- ---- the search

pub look : (c i to : ℕ) (l : List ℕ) → i < to → i < length l → first_in c i to l ≡ cond (eqb (get_or l i 0) c) (Some i) (first_in c (i + 1) to l)
unfolding first_from
look c i to l h g =
    let e : to - i ≡ suc (to - suc i) = omega arith in
    rw (drop-cons l i 0 g, e, add-one i)

-- what lies in no place before `to` and in none of the buffer
pub look-out : (c i to : ℕ) (l : List ℕ) → min to (length l) ≤ i → first_in c i to l ≡ None
unfolding first_from
look-out c i to l h =
    let e : take (to - i) (drop i l) ≡ [] = empty (take (to - i) (drop i l)) (simp (length-take, length-drop) (omega arith)) in
    rw e

to_end : (c at : ℕ) (l : List ℕ) → first_in c at (length l) l ≡ first_from c at (drop at l)
to_end c at l = ap (first_from c at) (take_all (length l - at) (drop at l) (simp length-drop (omega arith)))

-- ---- the fields

abbrev Cut : List ℕ → ℕ → ℕ → Type 0
Cut l i j = (i ≤ j) × ((j - i < length l) × (fields l ≡ take (j - i) l ∷ fields (drop (suc (j - i)) l)))

cut_step : (t : Bool) (b : ℕ) (l : List ℕ) (i j : ℕ) → eqb b 32 ≡ t → (first_from 32 (suc i) l ≡ Some j → Cut l (suc i) j) → cond t (Some i) (first_from 32 (suc i) l) ≡ Some j → Cut (b ∷ l) i j
unfolding fields
cut_step true b l i j space cuts e =
    let q : i ≡ j = cc in
    let z : j - i ≡ 0 = omega arith in
    (omega arith, (omega arith, rw (space, z)))
cut_step false b l i j other cuts e =
    let h = cuts e in
    let z : j - i ≡ suc (j - suc i) = omega arith in
    (omega arith, (omega arith, rw (other, z, h.1.1)))

-- a space at j ends the first field
cut : (l : List ℕ) (i j : ℕ) → first_from 32 i l ≡ Some j → Cut l i j
unfolding first_from
cut [] i j e = absurd (let z : ◌≡◌ {A = ℕ} 0 1 = cc in omega arith)
cut (b ∷ l) i j e = cut_step (eqb b 32) b l i j refl (cut l (suc i) j) e

uncut-step : (t : Bool) (b : ℕ) (l : List ℕ) (i : ℕ) → eqb b 32 ≡ t → (first_from 32 (suc i) l ≡ None → fields l ≡ l ∷ []) → cond t (Some i) (first_from 32 (suc i) l) ≡ None → fields (b ∷ l) ≡ (b ∷ l) ∷ []
unfolding fields
uncut-step true b l i space whole e = absurd (let z : ◌≡◌ {A = ℕ} 0 1 = cc in omega arith)
uncut-step false b l i other whole e = rw (other, whole e)

-- without a space there is one field
uncut : (l : List ℕ) (i : ℕ) → first_from 32 i l ≡ None → fields l ≡ l ∷ []
unfolding first_from fields
uncut [] i e = refl
uncut (b ∷ l) i e = uncut-step (eqb b 32) b l i refl (uncut l (suc i)) e

-- the first of the fields from `at` ends at e
pub record Ends (l : List ℕ) (at e : ℕ) : Type 0 where
  pub within : e ≤ length l
  pub last : length l ≤ e → fields (drop at l) ≡ first (fields (drop at l)) ∷ []
  pub more : e < length l → fields (drop at l) ≡ first (fields (drop at l)) ∷ fields (drop (e + 1) l)
  pub part : at ≤ e → first (fields (drop at l)) ≡ take (e - at) (drop at l)
  pub none : e < at → drop at l ≡ []

pub ends : (l : List ℕ) (at : ℕ) (f : Option ℕ) → first_in 32 at (length l) l ≡ f → Ends l at (unwrap_or f (length l))
ends l at (Some j) e =
    let h = cut (drop at l) at j (sym (to_end 32 at l) ∙ e) in
    let i : j - at < length l - at = rw length-drop at h.1.0 in
    let next : at + suc (j - at) ≡ j + 1 = omega arith in
    let step : drop (suc (j - at)) (drop at l) ≡ drop (j + 1) l = drop-drop (suc (j - at)) at l ∙ ap (λ (n : ℕ). drop n l) next in
    record {
      within = omega arith;
      last = λ g. absurd (omega arith);
      more = λ g. rw (h.1.1, step);
      part = λ g. ap first h.1.1;
      none = λ g. absurd (omega arith);
    }
ends l at None e =
    let h = uncut (drop at l) at (sym (to_end 32 at l) ∙ e) in
    record {
      within = omega arith;
      last = λ g. rw h;
      more = λ g. absurd (omega arith);
      part = λ g. ap first h ∙ sym (take_all (length l - at) (drop at l) (simp length-drop (omega arith)));
      none = λ g. drop_of_length-le l {i = at} (omega arith);
    }
