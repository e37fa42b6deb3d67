-- Bytes that are heard up to a newline, and one part after another. Assumes nothing.
use mathlib.Core.Path.{◌≡◌, refl, sym, ap, ◌∙◌}
use mathlib.Core.Bool.{Bool, true, false, cond}
use mathlib.Core.List.{List, [], ◌∷◌, ◌++◌, append_assoc, append-nil}
use Prim.Native.Nat.{ℕ, suc, ◌+◌, ◌-◌, ◌<◌, ◌≤◌}
use native.Mathlib.Omega.{arith}
use lib.Dec.{eqb}
use lib.ListN.{length, take, drop, length-take, length-drop}
use lib.Seq.{take-take, take-add, drop-drop}
use Rattle.std.specs.Prelude.{Some, None}
use Rattle.script_forms.specs.Forms.{Desk, open_desk, says, leaves}
use Rattle.script_lines.specs.Search.{first_from, first_in}
use Rattle.script_chunks.specs.Input.{Told, silent, ends, joined, heard, between}

-- the parts of an input may be heard one after the other
pub heard-append : (n : ℕ) (t : Told) (a b : List ℕ) → heard n t (a ++ b) ≡ heard n (heard n t a) b
unfolding heard
heard-append n t [] b = refl
heard-append n t (x ∷ a) b = heard-append n (cond (eqb x 10) (ends n t) (joined t (x ∷ []))) a b

abbrev pub told : Desk → List ℕ → List ℕ → Told
told s p t = record { state = s; part = p; text = t }

-- what was printed before changes neither the state nor the line
pub heard-text : (n : ℕ) (s : Desk) (p t u l : List ℕ) → ((heard n (told s p t) l).state ≡ (heard n (told s p u) l).state) × ((heard n (told s p t) l).part ≡ (heard n (told s p u) l).part)
unfolding heard ends joined
heard-text n s p t u [] = (refl, refl)
heard-text n s p t u (b ∷ l) = go (eqb b 10) (heard-text n (leaves n s p) [] (t ++ says n s p) (u ++ says n s p) l) (heard-text n s (p ++ (b ∷ [])) t u l)
  where
    go : (c : Bool)
        → ((heard n (ends n (told s p t)) l).state ≡ (heard n (ends n (told s p u)) l).state) × ((heard n (ends n (told s p t)) l).part ≡ (heard n (ends n (told s p u)) l).part)
        → ((heard n (joined (told s p t) (b ∷ [])) l).state ≡ (heard n (joined (told s p u) (b ∷ [])) l).state) × ((heard n (joined (told s p t) (b ∷ [])) l).part ≡ (heard n (joined (told s p u) (b ∷ [])) l).part)
        → ((heard n (cond c (ends n (told s p t)) (joined (told s p t) (b ∷ []))) l).state ≡ (heard n (cond c (ends n (told s p u)) (joined (told s p u) (b ∷ []))) l).state)
        × ((heard n (cond c (ends n (told s p t)) (joined (told s p t) (b ∷ []))) l).part ≡ (heard n (cond c (ends n (told s p u)) (joined (told s p u) (b ∷ []))) l).part)
    go true e f = e
    go false e f = f

pub between_split : (from i to : ℕ) (l : List ℕ) → from ≤ i → i ≤ to → between from to l ≡ between from i l ++ between i to l
between_split from i to l h g =
    let e : to - from ≡ (i - from) + (to - i) = omega arith in
    let f : from + (i - from) ≡ i = omega arith in
    rw e (take-add (i - from) (to - i) (drop from l) ∙ rw (drop-drop (i - from) from l, f))

joined-none : (t : Told) → joined t [] ≡ t
unfolding joined
joined-none t = rw (append-nil t.part)

joined-more : (t : Told) (a b : List ℕ) → joined (joined t a) b ≡ joined t (a ++ b)
unfolding joined
joined-more t a b = rw (append_assoc t.part a b)

-- no newline: all of it belongs to the line
pub quiet : (n : ℕ) (t : Told) (l : List ℕ) (i : ℕ) → first_from 10 i l ≡ None → heard n t l ≡ joined t l
unfolding heard first_from
quiet n t [] i e = sym (joined-none t)
quiet n t (b ∷ l) i e = go (eqb b 10) (λ k. quiet n (joined t (b ∷ [])) l (suc i) k) e
  where
    go : (c : Bool) → (first_from 10 (suc i) l ≡ None → heard n (joined t (b ∷ [])) l ≡ joined (joined t (b ∷ [])) l)
        → cond c (Some i) (first_from 10 (suc i) l) ≡ None → heard n (cond c (ends n t) (joined t (b ∷ []))) l ≡ joined t (b ∷ l)
    go true f k = absurd (let z : ◌≡◌ {A = ℕ} 0 1 = cc in let v : ⊥ = omega arith in v)
    go false f k = f k ∙ joined-more t (b ∷ []) l

abbrev Ended : ℕ → Told → List ℕ → ℕ → ℕ → Type 0
Ended n t l i j = (i ≤ j) × ((j - i < length l) × (heard n t (take (suc (j - i)) l) ≡ ends n (joined t (take (j - i) l))))

ended-step : (c : Bool) (n : ℕ) (t : Told) (b : ℕ) (l : List ℕ) (i j : ℕ) → eqb b 10 ≡ c → (first_from 10 (suc i) l ≡ Some j → Ended n (joined t (b ∷ [])) l (suc i) j)
    → cond c (Some i) (first_from 10 (suc i) l) ≡ Some j → Ended n t (b ∷ l) i j
unfolding heard
ended-step true n t b l i j is f e =
    let q : i ≡ j = cc in
    let z : j - i ≡ 0 = omega arith in
    (omega arith, (omega arith, rw (z, is, joined-none t)))
ended-step false n t b l i j is f e =
    let h = f e in
    let z : j - i ≡ suc (j - suc i) = omega arith in
    (omega arith, (omega arith, rw (z, is) (h.1.1 ∙ ap (ends n) (joined-more t (b ∷ []) (take (j - suc i) l)))))

-- the first newline, at j, ends the line
ended : (n : ℕ) (t : Told) (l : List ℕ) (i j : ℕ) → first_from 10 i l ≡ Some j → Ended n t l i j
unfolding first_from
ended n t [] i j e = absurd (let z : ◌≡◌ {A = ℕ} 0 1 = cc in let v : ⊥ = omega arith in v)
ended n t (b ∷ l) i j e = ended-step (eqb b 10) n t b l i j refl (λ k. ended n (joined t (b ∷ [])) l (suc i) j k) e

module _ (n : ℕ) (chunk : List ℕ) (from end : ℕ) (h : from ≤ length chunk) (e : Some end ≡ first_in 10 from (length chunk) chunk) where
  abbrev rest : List ℕ
  rest = between from (length chunk) chunk

  length_rest : length rest ≡ length chunk - from
  length_rest = simp (length-take, length-drop) (omega arith)

  pub end-within : (from ≤ end) × (end < length chunk)
  end-within =
      let w = ended n (silent (open_desk n)) rest from end (sym e) in
      let low = w.0 in
      let high = w.1.0 in
      let size = length_rest in
      (low, omega arith)

  pub end-heard : (t : Told) → heard n t (between from (end + 1) chunk) ≡ ends n (joined t (between from end chunk))
  end-heard t =
      let w = ended n t rest from end (sym e) in
      let low = w.0 in
      let high = w.1.0 in
      let size = length_rest in
      let k : end + 1 - from ≡ suc (end - from) = omega arith in
      rw (k, ← take-take (suc (end - from)) (length chunk - from) (drop from chunk) (omega arith), ← take-take (end - from) (length chunk - from) (drop from chunk) (omega arith)) w.1.1
