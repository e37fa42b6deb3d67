-- What a run over pages tells, in one window. Assumes nothing.
use mathlib.Core.Path.{◌≡◌, refl, sym, ◌∙◌, ap, subst}
use mathlib.Core.Logic.{◌⊎◌, inl, inr}
use mathlib.Core.Bool.{Bool, true, false, not, cond, ◌&&◌}
use mathlib.Core.List.{List, [], ◌∷◌}
use Prim.Native.Nat.{ℕ, suc, ◌+◌, ◌-◌, ◌≤◌, ◌<◌}
use native.Mathlib.Omega.{arith}
use lib.Dec.{T, leb, ltb, eqb, leb→le, ltb→lt, le→leb, lt→ltb, nltb→le, eqb→eq}
use lib.ListN.{length, get_or, set, length-set, get_or-eq_default}
use lib.Seq.{get_or-set_same, get_or-set_other, set_out}
use Rattle.rules_laws.proofs.Lists.{if, and_i, and_l, and_r, same_test, T-or-not, T_true, T_false, T-no, neq}
use Rattle.mapper_laws.specs.Marks.{in_window, part, Marks, marking, fine}
use Rattle.mapper_marks.specs.declared.Limits.{Limits}
use Rattle.mapper_marks.specs.Marking.{is_marked_lem, marked, Run, run, welcome, meet, meet_all}
use Rattle.mapper_marks.proofs.Meeting.{told-before}
use Rattle.mapper_tables.specs.Apart.{inside, inside_all}

-- marks m, the first of them that of page lo, show those of M
pub record Shown (lo : ℕ) (m : List Bool) (M : Marks) : Type 0 where
  pub each : (i : ℕ) → i < length m → get_or m i false ≡ M.at (lo + i)

module _ (lo : ℕ) where
  within : (m : List Bool) (p : ℕ) → T (in_window lo (length m) p) → (lo ≤ p) × (p - lo < length m)
  within m p t =
      let a = leb→le lo p (and_l (leb lo p) (ltb p (lo + length m)) t) in
      let b = ltb→lt p (lo + length m) (and_r (leb lo p) (ltb p (lo + length m)) t) in
      (a, omega arith)

  mark-in : (m : List Bool) (M : Marks) (p : ℕ) → Shown lo m M → T (in_window lo (length m) p) → is_marked_lem lo m p ≡ M.at p
  mark-in m M p s t =
      let h = within m p t in
      let a = h.0 in
      ap (λ (c : Bool). c && get_or m (p - lo) false) (T_true (leb lo p) (le→leb lo p a)) ∙ s.each (p - lo) h.1 ∙ ap M.at (let z : lo + (p - lo) ≡ p = omega arith in z)

  mark-out : (m : List Bool) (p : ℕ) → T (not (in_window lo (length m) p)) → is_marked_lem lo m p ≡ false
  mark-out m p t = elim (T-or-not (leb lo p)) [
    | inr n ↦ ap (λ (c : Bool). c && get_or m (p - lo) false) (T_false (leb lo p) n)
    | inl a ↦ ap (λ (c : Bool). c && get_or m (p - lo) false) (T_true (leb lo p) a)
        ∙ get_or-eq_default m false {n = p - lo} (let b = nltb→le p (lo + length m) (right (leb lo p) (ltb p (lo + length m)) t a) in let c = leb→le lo p a in omega arith)
  ]
    where
      right : (x y : Bool) → T (not (x && y)) → T x → T (not y)
      right true y t a = t
      right false y t a = absurd a

  same_length : (m : List Bool) (p : ℕ) → length (marked lo m p) ≡ length m
  same_length m p = if (leb lo p) (λ (k : List Bool). length k ≡ length m) (λ _. length-set {A = Bool} m (p - lo) true) (λ _. refl)

  shown-in : (m : List Bool) (M : Marks) (p : ℕ) → Shown lo m M → T (in_window lo (length m) p) → Shown lo (marked lo m p) (marking p M)
  shown-in m M p s t = let h = within m p t in let a = h.0 in let b = h.1 in record {
    each = λ i few. let len = same_length m p in
        ap (λ (c : Bool). get_or (cond c (set m (p - lo) true) m) i false) (T_true (leb lo p) (le→leb lo p a)) ∙ elim (T-or-not (eqb (lo + i) p)) [
          | inl e ↦ let g = eqb→eq (lo + i) p e in
              ap (λ (k : ℕ). get_or (set m (p - lo) true) k false) (let z : i ≡ p - lo = omega arith in z) ∙ get_or-set_same m (p - lo) true false b ∙ sym (ap (λ (c : Bool). cond c true (M.at (lo + i))) (T_true (eqb (lo + i) p) e))
          | inr e ↦ let d = neq (lo + i) p e in
              get_or-set_other m (p - lo) i true false (λ g. d (let z : lo + i ≡ p = omega arith in z)) ∙ s.each i (omega arith) ∙ sym (ap (λ (c : Bool). cond c true (M.at (lo + i))) (T_false (eqb (lo + i) p) e))
        ];
  }

  unchanged : (m : List Bool) (p : ℕ) → T (not (in_window lo (length m) p)) → marked lo m p ≡ m
  unchanged m p t = elim (T-or-not (leb lo p)) [
    | inr n ↦ ap (λ (c : Bool). cond c (set m (p - lo) true) m) (T_false (leb lo p) n)
    | inl a ↦ ap (λ (c : Bool). cond c (set m (p - lo) true) m) (T_true (leb lo p) a)
        ∙ set_out m (p - lo) true (let b = nltb→le p (lo + length m) (right (leb lo p) (ltb p (lo + length m)) t a) in let c = leb→le lo p a in omega arith)
  ]
    where
      right : (x y : Bool) → T (not (x && y)) → T x → T (not y)
      right true y t a = t
      right false y t a = absurd a

module _ (x : Limits) where
  abbrev low : ℕ
  low = x.lowest

  abbrev high : ℕ
  high = x.past

  abbrev lo : ℕ
  lo = x.lo

  -- what the run is to tell
  abbrev pub Tells : List ℕ → ℕ → List Bool → Marks → Bool
  Tells l n m M = leb (length l) n && (inside_all low high l && fine (part lo (length m) l) M)

  -- of one page more
  more : (p n : ℕ) (l : List ℕ) → 0 < n → leb (length l) (n - 1) ≡ leb (length (p ∷ l)) n
  more p n l some = same_test (leb (length l) (n - 1)) (leb (suc (length l)) n)
      (λ t. let h = leb→le (length l) (n - 1) t in le→leb (suc (length l)) n (omega arith)) (λ t. let h = leb→le (suc (length l)) n t in le→leb (length l) (n - 1) (omega arith))

  -- the page is welcome: what is left to tell is of the others
  step_in : (p n : ℕ) (l : List ℕ) (m : List Bool) (M : Marks) → 0 < n → T (inside low high p) → T (in_window lo (length m) p) → M.at p ≡ false
      → Tells l (n - 1) (marked lo m p) (marking p M) ≡ Tells (p ∷ l) n m M
  unfolding inside_all fine part
  step_in p n l m M some here w free =
      ap (λ (k : ℕ). leb (length l) (n - 1) && (inside_all low high l && fine (part lo k l) (marking p M))) (same_length lo m p)
      ∙ rw (T_true (inside low high p) here, T_true (in_window lo (length m) p) w, free) (ap (λ (c : Bool). c && (inside_all low high l && fine (part lo (length m) l) (marking p M))) (more p n l some))

  step-out : (p n : ℕ) (l : List ℕ) (m : List Bool) (M : Marks) → 0 < n → T (inside low high p) → T (not (in_window lo (length m) p)) → Tells l (n - 1) m M ≡ Tells (p ∷ l) n m M
  unfolding inside_all fine part
  step-out p n l m M some here w =
      rw (T_true (inside low high p) here, T_false (in_window lo (length m) p) w) (ap (λ (c : Bool). c && (inside_all low high l && fine (part lo (length m) l) M)) (more p n l some))

  met-it : (p n : ℕ) (m : List Bool) → T (welcome x p (run true n m)) → meet x p (run true n m) ≡ run true (n - 1) (marked lo m p)
  unfolding meet
  met-it p n m t = rw (T_true (welcome x p (run true n m)) t)

  not-met : (p n : ℕ) (m : List Bool) → T (not (welcome x p (run true n m))) → meet x p (run true n m) ≡ run false n m
  unfolding meet
  not-met p n m t = rw (T_false (welcome x p (run true n m)) t)

  unmarked : (p : ℕ) (l : List ℕ) (m : List Bool) (M : Marks) → Shown lo m M → T (fine (part lo (length m) (p ∷ l)) M) → T (not (is_marked_lem lo m p))
  unfolding fine part
  unmarked p l m M s ok = elim (T-or-not (in_window lo (length m) p)) [
    | inr w ↦ subst (λ (c : Bool). T (not c)) (sym (mark-out lo m p w)) tt
    | inl w ↦ subst (λ (c : Bool). T (not c)) (sym (mark-in lo m M p s w)) (and_l (not (M.at p)) (fine (part lo (length m) l) (marking p M)) (rw (T_true (in_window lo (length m) p) w) at ok))
  ]

  -- a page that is not welcome is told
  unwelcome : (p n : ℕ) (l : List ℕ) (m : List Bool) (M : Marks) → Shown lo m M → T (not (welcome x p (run true n m))) → T (not (Tells (p ∷ l) n m M))
  unfolding inside_all
  unwelcome p n l m M s t = no (Tells (p ∷ l) n m M) (λ told.
      let a = leb (length (p ∷ l)) n in
      let b = inside low high p in
      let r = inside_all low high l in
      let f = fine (part lo (length m) (p ∷ l)) M in
      let room = leb→le (suc (length l)) n (and_l a ((b && r) && f) told) in
      let here = and_l b r (and_l (b && r) f (and_r a ((b && r) && f) told)) in
      let ok = and_r (b && r) f (and_r a ((b && r) && f) told) in
      T-no (welcome x p (run true n m)) t (and_i (ltb 0 n) (leb low p && (ltb p high && not (is_marked_lem lo m p))) (lt→ltb 0 n (omega arith))
      (and_i (leb low p) (ltb p high && not (is_marked_lem lo m p)) (and_l (leb low p) (ltb p high) here)
      (and_i (ltb p high) (not (is_marked_lem lo m p)) (and_r (leb low p) (ltb p high) here) (unmarked p l m M s ok)))))
    where
      no : (c : Bool) → (T c → ⊥) → T (not c)
      no true f = absurd (f tt)
      no false f = tt

  pub window-run : (l : List ℕ) (n : ℕ) (m : List Bool) (M : Marks) → Shown lo m M → (meet_all x l (run true n m)).fine ≡ Tells l n m M
  unfolding meet_all inside_all fine part
  window-run [] n m M s = sym (ap (λ (c : Bool). c && true) (T_true (leb 0 n) (le→leb 0 n (omega arith))))
  window-run (p ∷ l) n m M s = go (window-run l) (T-or-not (welcome x p (run true n m)))
    where
      IH : Type 0
      IH = (n : ℕ) (m : List Bool) (M : Marks) → Shown lo m M → (meet_all x l (run true n m)).fine ≡ Tells l n m M

      go : IH → T (welcome x p (run true n m)) ⊎ T (not (welcome x p (run true n m))) → (meet_all x l (meet x p (run true n m))).fine ≡ Tells (p ∷ l) n m M
      go ih (inr t) = ap (λ (r : Run). (meet_all x l r).fine) (not-met p n m t) ∙ sym (ap (λ (r : Run). r.fine) (told-before x l n m)) ∙ sym (T_false (Tells (p ∷ l) n m M) (unwelcome p n l m M s t))
      go ih (inl t) =
          let a = ltb 0 n in
          let b = leb low p in
          let d = ltb p high in
          let e = not (is_marked_lem lo m p) in
          let some = ltb→lt 0 n (and_l a (b && (d && e)) t) in
          let t' = and_r a (b && (d && e)) t in
          let here : T (inside low high p) = and_i b d (and_l b (d && e) t') (and_l d e (and_r b (d && e) t')) in
          let free = T_false (is_marked_lem lo m p) (and_r d e (and_r b (d && e) t')) in
          ap (λ (r : Run). (meet_all x l r).fine) (met-it p n m t) ∙ elim (T-or-not (in_window lo (length m) p)) [
            | inl w ↦ ih (n - 1) (marked lo m p) (marking p M) (shown-in lo m M p s w) ∙ step_in p n l m M some here w (sym (mark-in lo m M p s w) ∙ free)
            | inr w ↦ ap (λ (k : List Bool). (meet_all x l (run true (n - 1) k)).fine) (unchanged lo m p w) ∙ ih (n - 1) m M s ∙ step-out p n l m M some here w
          ]
