-- The check of the register says yes exactly for request T-07's sentence. Assumes nothing.
use mathlib.Core.Path.{◌≡◌, refl, sym, subst}
use mathlib.Core.Logic.{◌⊎◌, inl, inr}
use mathlib.Core.Bool.{Bool, true, false, cond, not, ◌&&◌}
use mathlib.Core.List.{List, [], ◌∷◌}
use Prim.Native.Nat.{suc}
use native.Mathlib.Omega.{arith}
use lib.Dec.{T, leb, ltb, eqb, leb→le, nleb→lt, le→leb, ltb→lt, lt→ltb, nltb→le, eqb→eq, not_T}
use Rattle.rules.specs.Rules.{top, Range, any, meets}
use Rattle.rules.specs.Sound.{In, Pairwise}
use Rattle.rules_laws.proofs.Lists.{if, and_l, and_r, and_i, T-no, T-or-not, any→, any←}
use Rattle.holder_rules.specs.Register.{holders, known, entry, blank, used, range_of, held}
use Rattle.holder_rules.specs.Sound.{Clear, Held, SoundRegister, is_good_lem, avoids, is_apart, register_sound}
use Rattle.holder_rules.specs.declared.Entry.{Entry}

-- ---- one entry

blank-is : (e : Entry) → T (not (used e)) → T (eqb e.start.0 0 && eqb e.last.0 0) → e ≡ blank
blank-is e u t =
    let h : e.holder.0 ≡ 0 = (let v = nltb→le 0 e.holder.0 u in omega arith) in
    let a = eqb→eq e.start.0 0 (and_l (eqb e.start.0 0) (eqb e.last.0 0) t) in
    let l = eqb→eq e.last.0 0 (and_r (eqb e.start.0 0) (eqb e.last.0 0) t) in
    λ i. entry (h i) (a i) (l i)

good→ : (e : Entry) → T (is_good_lem e) → (e ≡ blank) ⊎ Held (range_of e)
unfolding is_good_lem
good→ e = if (used e) (λ b. T b → (e ≡ blank) ⊎ Held (range_of e))
    (λ u t. let b = and_r (known e.holder.0) (leb e.start.0 e.last.0 && ltb e.last.0 top) t in inr (record {
      whose = and_l (known e.holder.0) (leb e.start.0 e.last.0 && ltb e.last.0 top) t;
      proper = leb→le e.start.0 e.last.0 (and_l (leb e.start.0 e.last.0) (ltb e.last.0 top) b);
      below = ltb→lt e.last.0 top (and_r (leb e.start.0 e.last.0) (ltb e.last.0 top) b);
    }))
    (λ u t. inl (blank-is e u t))

good← : (e : Entry) → (e ≡ blank) ⊎ Held (range_of e) → T (is_good_lem e)
unfolding is_good_lem
good← e (inl d) = subst (λ (x : Entry). T (is_good_lem x)) (sym d) tt
good← e (inr h) = if (used e) (λ b. T b)
    (λ u. and_i (known e.holder.0) (leb e.start.0 e.last.0 && ltb e.last.0 top) h.whose
    (and_i (leb e.start.0 e.last.0) (ltb e.last.0 top) (le→leb e.start.0 e.last.0 h.proper) (lt→ltb e.last.0 top h.below)))
    (λ u. absurd (T-no (used e) u (and_l (leb 1 e.holder.0) (leb e.holder.0 holders) h.whose)))

-- no byte of the ranges: clear of each
avoids→ : (e : Entry) (l : List Range) → T (avoids e l) → (p : Range) → In p l → Clear (range_of e) p
avoids→ e l t p i = elim (T-or-not (ltb p.start (suc e.last.0))) [
  | inr h ↦ let g = nltb→le p.start (suc e.last.0) h in inl (omega arith)
  | inl h ↦ elim (T-or-not (leb e.start.0 p.last)) [
    | inr k ↦ inr (nleb→lt e.start.0 p.last k)
    | inl k ↦ absurd (T-no (any (meets e.start.0 (suc e.last.0)) l) t (any← (meets e.start.0 (suc e.last.0)) l p i (and_i (ltb p.start (suc e.last.0)) (leb e.start.0 p.last) h k)))
  ]
]

avoids← : (e : Entry) (l : List Range) → ((p : Range) → In p l → Clear (range_of e) p) → T (avoids e l)
avoids← e l f = not_T (any (meets e.start.0 (suc e.last.0)) l) (λ t.
    let w = any→ (meets e.start.0 (suc e.last.0)) l t in
    let a = ltb→lt w.0.start (suc e.last.0) (and_l (ltb w.0.start (suc e.last.0)) (leb e.start.0 w.0.last) w.2) in
    let b = leb→le e.start.0 w.0.last (and_r (ltb w.0.start (suc e.last.0)) (leb e.start.0 w.0.last) w.2) in
    elim (f w.0 w.1) [ inl c ↦ omega arith | inr c ↦ omega arith ])

-- ---- the register

module _ (f : List Range) where
  pub sound→ : (r : List Entry) → T (register_sound f r) → SoundRegister f r
  unfolding register_sound is_apart held
  sound→ [] t = record { sound = record { good = λ e h. absurd h; apart = tt }; clear = λ q i. absurd i }
  sound→ (e ∷ l) t =
      let a = and_r (is_good_lem e) (is_apart f e l && register_sound f l) t in
      with-entry (good→ e (and_l (is_good_lem e) (is_apart f e l && register_sound f l) t)) (and_l (is_apart f e l) (register_sound f l) a) (sound→ l (and_r (is_apart f e l) (register_sound f l) a))
    where
      with-entry : (e ≡ blank) ⊎ Held (range_of e) → T (is_apart f e l) → SoundRegister f l → SoundRegister f (e ∷ l)
      with-entry g a s = record {
        sound = record {
          good = λ x h. elim h [ inl d ↦ subst (λ (y : Entry). (y ≡ blank) ⊎ Held (range_of y)) (sym d) g | inr k ↦ s.sound.good x k ];
          apart = pairs (used e) a;
        };
        clear = clears (used e) a;
      }
        where
          pairs : (b : Bool) → T (cond b (avoids e f && avoids e (held l)) true) → Pairwise Clear (cond b (range_of e ∷ held l) (held l))
          pairs true a = (avoids→ e (held l) (and_r (avoids e f) (avoids e (held l)) a), s.sound.apart)
          pairs false a = s.sound.apart

          clears : (b : Bool) → T (cond b (avoids e f && avoids e (held l)) true) → (q : Range) → In q (cond b (range_of e ∷ held l) (held l)) → (p : Range) → In p f → Clear q p
          clears true a q i p j = elim i [ inl d ↦ subst (λ (y : Range). Clear y p) (sym d) (avoids→ e f (and_l (avoids e f) (avoids e (held l)) a) p j) | inr k ↦ s.clear q k p j ]
          clears false a q i p j = s.clear q i p j

  pub sound← : (r : List Entry) → SoundRegister f r → T (register_sound f r)
  unfolding register_sound is_apart held
  sound← [] s = tt
  sound← (e ∷ l) s = and_i (is_good_lem e) (is_apart f e l && register_sound f l) (good← e (s.sound.good e (inl refl)))
      (and_i (is_apart f e l) (register_sound f l) (apart (used e) s.sound.apart s.clear)
      (sound← l (rest (used e) s.sound.apart s.clear)))
    where
      apart : (b : Bool) → Pairwise Clear (cond b (range_of e ∷ held l) (held l)) → ((q : Range) → In q (cond b (range_of e ∷ held l) (held l)) → (p : Range) → In p f → Clear q p)
          → T (cond b (avoids e f && avoids e (held l)) true)
      apart true p c = and_i (avoids e f) (avoids e (held l)) (avoids← e f (c (range_of e) (inl refl))) (avoids← e (held l) p.0)
      apart false p c = tt

      rest : (b : Bool) → Pairwise Clear (cond b (range_of e ∷ held l) (held l)) → ((q : Range) → In q (cond b (range_of e ∷ held l) (held l)) → (p : Range) → In p f → Clear q p) → SoundRegister f l
      rest true p c = record { sound = record { good = λ x h. s.sound.good x (inr h); apart = p.1 }; clear = λ q i. c q (inr i) }
      rest false p c = record { sound = record { good = λ x h. s.sound.good x (inr h); apart = p }; clear = c }
