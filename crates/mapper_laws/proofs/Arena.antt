-- A store into an arena is a store of the word, and clearing its words clears them. Assumes nothing.
use mathlib.Core.Path.{◌≡◌, refl, sym, ◌∙◌, ap}
use mathlib.Core.Logic.{◌≢◌, inl, inr}
use mathlib.Core.Bool.{Bool, true, false, cond, ◌&&◌}
use mathlib.Core.List.{List}
use Prim.Native.Nat.{ℕ, zero, suc, ◌+◌, ◌-◌, ◌*◌, ◌/◌, ◌%◌, ◌≤◌, ◌<◌}
use native.Mathlib.Omega.{arith}
use native.Mathlib.Nat.{div-add-mod, mod-lt}
use lib.Dec.{T, leb, ltb, eqb, leb→le, ltb→lt, le→leb, lt→ltb, nltb→le, eqb→eq, eqb_refl, lit<}
use lib.ListN.{length, get_or-eq_default}
use lib.Seq.{get_or-set_same, get_or-set_other, set_out}
use Rattle.rules_laws.proofs.Lists.{and_i, and_l, and_r, same_test, T-or-not, T_true, T_false, neq}
use Rattle.mapper_laws.specs.Arena.{shows, stored, cleared}
use Rattle.mapper_laws.proofs.Apart.{in-page}

module _ (b : ℕ) (A : List ℕ) where
  other : (i v w : ℕ) → w ≢ i → shows b (stored b A i v) w ≡ shows b A w
  other i v w d = elim (T-or-not (leb b i)) [
    | inr n ↦ rw (T_false (leb b i) n)
    | inl y ↦ rw (T_true (leb b i) y) (elim (T-or-not (leb b w)) [
      | inl l ↦ let low = leb→le b w l in let from = leb→le b i y in
          rw (T_true (leb b w) l) (get_or-set_other A (i - b) (w - b) v 0 (λ g. d (let z : w ≡ i = omega arith in z)))
      | inr l ↦ rw (T_false (leb b w) l)
    ])
  ]

  -- a word of the arena
  pub stored-shows : (i v w : ℕ) → b ≤ i → i < b + length A → shows b (stored b A i v) w ≡ cond (eqb w i) v (shows b A w)
  stored-shows i v w low high = elim (T-or-not (eqb w i)) [
    | inl e ↦ rw (eqb→eq w i e, T_true (eqb i i) (eqb_refl i), T_true (leb b i) (le→leb b i low)) (get_or-set_same A (i - b) v 0 (omega arith))
    | inr e ↦ rw (T_false (eqb w i) e) (other i v w (neq w i e))
  ]

  -- 0 may be stored anywhere: where there is no word, 0 shows
  zero-shows : (i w : ℕ) → shows b (stored b A i 0) w ≡ cond (eqb w i) 0 (shows b A w)
  zero-shows i w = elim (T-or-not (eqb w i)) [
    | inl e ↦ rw (eqb→eq w i e, T_true (eqb i i) (eqb_refl i)) here
    | inr e ↦ rw (T_false (eqb w i) e) (other i 0 w (neq w i e))
  ]
    where
      here : shows b (stored b A i 0) i ≡ 0
      here = elim (T-or-not (leb b i)) [
        | inr n ↦ rw (T_false (leb b i) n)
        | inl y ↦ rw (T_true (leb b i) y) (elim (T-or-not (ltb (i - b) (length A))) [
          | inl l ↦ get_or-set_same A (i - b) 0 0 (ltb→lt (i - b) (length A) l)
          | inr l ↦ let past = nltb→le (i - b) (length A) l in rw (set_out A (i - b) 0 past) (get_or-eq_default A 0 {n = i - b} past)
        ])
      ]

module _ (b : ℕ) (A : List ℕ) (v w : ℕ) where
  within : (n : ℕ) → shows b (cleared n b A v) w ≡ cond (leb v w && ltb w (v + n)) 0 (shows b A w)
  unfolding cleared
  within zero = rw (none (leb v w) (ltb w (v + 0)) (λ t u. let l = leb→le v w t in let r = ltb→lt w (v + 0) u in let z : ⊥ = omega arith in z))
    where
      none : (x y : Bool) → (T x → T y → ⊥) → (x && y) ≡ false
      none true true f = absurd (f tt tt)
      none true false f = refl
      none false y f = refl
  within (suc n) = zero-shows b (cleared n b A v) (v + n) w ∙ elim (T-or-not (eqb w (v + n))) [
    | inl e ↦ let g = eqb→eq w (v + n) e in
        rw (T_true (eqb w (v + n)) e, T_true (leb v w) (le→leb v w (omega arith)), T_true (ltb w (v + suc n)) (lt→ltb w (v + suc n) (omega arith)))
    | inr e ↦ let d = neq w (v + n) e in
        rw (T_false (eqb w (v + n)) e)
        (within n ∙ ap (λ (c : Bool). cond (leb v w && c) 0 (shows b A w)) (same_test (ltb w (v + n)) (ltb w (v + suc n))
        (λ t. let l = ltb→lt w (v + n) t in lt→ltb w (v + suc n) (omega arith)) (λ t. let l = ltb→lt w (v + suc n) t in lt→ltb w (v + n) (omega arith))))
  ]

-- the words of page p
pub cleared-shows : (b : ℕ) (A : List ℕ) (p w : ℕ) → shows b (cleared 512 b A (512 * p)) w ≡ cond (eqb (w / 512) p) 0 (shows b A w)
cleared-shows b A p w = within b A (512 * p) w 512 ∙ ap (λ (c : Bool). cond c 0 (shows b A w)) (same_test (leb (512 * p) w && ltb w (512 * p + 512)) (eqb (w / 512) p) in-it of-it)
  where
    in-it : T (leb (512 * p) w && ltb w (512 * p + 512)) → T (eqb (w / 512) p)
    in-it t =
        let l = leb→le (512 * p) w (and_l (leb (512 * p) w) (ltb w (512 * p + 512)) t) in
        let r = ltb→lt w (512 * p + 512) (and_r (leb (512 * p) w) (ltb w (512 * p + 512)) t) in
        let e : 512 * p + (w - 512 * p) ≡ w = omega arith in
        let d : w / 512 ≡ p = ap (λ (y : ℕ). y / 512) (sym e) ∙ in-page p (w - 512 * p) (omega arith) in
        rw d (eqb_refl p)

    of-it : T (eqb (w / 512) p) → T (leb (512 * p) w && ltb w (512 * p + 512))
    of-it t =
        let e = eqb→eq (w / 512) p t in
        let d = div-add-mod w 512 in
        let m : w % 512 < 512 = mod-lt w (lit< tt) in
        let f : 512 * p + w % 512 ≡ w = ap (λ (y : ℕ). 512 * y + w % 512) (sym e) ∙ d in
        and_i (leb (512 * p) w) (ltb w (512 * p + 512)) (le→leb (512 * p) w (omega arith)) (lt→ltb w (512 * p + 512) (omega arith))
