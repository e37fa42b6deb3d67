-- What tells the number of an answer: of a free the holder's own list, of an allocate its own numbers. Assumes nothing.
use mathlib.Core.Path.{◌≡◌, refl, sym, ap, ◌∙◌, subst}
use mathlib.Core.Logic.{inl, inr}
use mathlib.Core.Bool.{Bool, true, false, not, cond, ◌&&◌, ◌||◌}
use mathlib.Core.List.{List, [], ◌∷◌}
use Prim.Native.Nat.{ℕ, ◌+◌}
use native.Mathlib.Omega.{arith}
use lib.Dec.{T, leb, ltb, eqb, leb→le, ltb→lt, eqb→eq}
use Rattle.rules.specs.Rules as rules
use Rattle.rules.specs.Rules.{top, Range, start_of, before, any, meets, Free, Allocate}
use Rattle.rules_laws.proofs.Lists.{if, and_l, and_r, or-e, T-no, any→}
use Rattle.rules_laws.proofs.Outcomes as below
use Rattle.rules_laws.proofs.Outcomes.{outcome}
use Rattle.rules_laws.proofs.Fours as fours
use Rattle.rules_laws.proofs.Fours.{free-four}
use Rattle.rules_engine.specs.Engine.{Engine}
use Rattle.rules_engine.proofs.Obeys.{Obeys}
use Rattle.holder_rules.specs.Register.{known, held, full, exactly, yours, by_address, those, of_holder, list_of}
use Rattle.holder_rules.specs.Holders.{Holding, Answer, accepted, refused, refuse, unless_refused, unless_other, give_back_lem, take_as, take, asked, By, step}
use Rattle.holder_rules.specs.declared.Entry.{Entry}
use Rattle.holder_laws.proofs.Entered.{held-good}
use Rattle.holder_laws.proofs.Outcomes.{not-not, Kept}
use Rattle.holder_laws.proofs.Keeps.{entries, gone, gone-in, gone-piece}
use Rattle.holder_laws.proofs.Bytes.{is_false}

-- ---- a holder's list has exactly its ranges

or_swap : (a b c : Bool) → (a || (b || c)) ≡ (b || (a || c))
or_swap true true c = refl
or_swap true false c = refl
or_swap false b c = refl

any-before : (p : Range → Bool) (q : Range) (l : List Range) → any p (before start_of q l) ≡ (p q || any p l)
unfolding any before
any-before p q [] = refl
any-before p q (r ∷ l) = go (leb q.start r.start) (any-before p q l)
  where
    go : (c : Bool) → any p (before start_of q l) ≡ (p q || any p l) → any p (cond c (q ∷ r ∷ l) (r ∷ before start_of q l)) ≡ (p q || (p r || any p l))
    go true e = refl
    go false e = ap (λ (b : Bool). p r || b) e ∙ or_swap (p r) (p q) (any p l)

any-by-address : (p : Range → Bool) (l : List Range) → any p (by_address l) ≡ any p l
unfolding any by_address
any-by-address p [] = refl
any-by-address p (q ∷ l) = any-before p q (by_address l) ∙ ap (λ (b : Bool). p q || b) (any-by-address p l)

any-those : (h s z : ℕ) (l : List Range) → any (exactly s z) (those (of_holder h) l) ≡ any (yours h s z) l
unfolding any those
any-those h s z [] = refl
any-those h s z (q ∷ l) = go (of_holder h q) (any-those h s z l)
  where
    go : (c : Bool) → any (exactly s z) (those (of_holder h) l) ≡ any (yours h s z) l
        → any (exactly s z) (cond c (q ∷ those (of_holder h) l) (those (of_holder h) l)) ≡ ((c && exactly s z q) || any (yours h s z) l)
    go true e = ap (λ (b : Bool). exactly s z q || b) e
    go false e = e

listed : (h s z : ℕ) (r : List Entry) → any (exactly s z) (list_of h r) ≡ any (yours h s z) (held r)
listed h s z r = any-by-address (exactly s z) (those (of_holder h) (held r)) ∙ any-those h s z (held r)

-- ---- the ladders

abbrev pub four_or_five : ℕ → Bool
four_or_five j = eqb j 4 || eqb j 5

module _ {S : Type 0} (k : Holding S) where
  -- a number of the allocator's, of which 5 is none
  other-told : (v : rules.Voucher) (c : Bool) (k' : Holding S) → eqb v.number 5 ≡ false → (T (not c) → eqb v.number 4 ≡ false) → four_or_five (unless_other v c k k').number ≡ c
  unfolding unless_other unless_refused refuse
  other-told v c k' five four = go v.number c five four
    where
      go : (j : ℕ) (b : Bool) → eqb j 5 ≡ false → (T (not b) → eqb j 4 ≡ false)
          → four_or_five (cond (eqb j 4) (refused 4 k) (cond b (refused 5 k) (cond (not (eqb j 0)) (refused j k) (accepted v.address k')))).number ≡ b
      go j true f g = if (eqb j 4) (λ (w : Answer S). four_or_five w.number ≡ true) (λ _. refl) (λ _. refl)
      go j false f g = rw (g tt) (if (not (eqb j 0)) (λ (w : Answer S). four_or_five w.number ≡ false) (λ _. rw (g tt, f)) (λ _. refl))

  take-told : (v : rules.Voucher) (s : S) (h : ℕ) (c : rules.Call) → eqb (take_as v s h c k).number 4 ≡ eqb v.number 4
  unfolding take_as unless_refused refuse
  take-told v s h c = if (not (eqb v.number 0)) (λ (w : Answer S). eqb w.number 4 ≡ eqb v.number 4)
      (λ _. refl)
      (λ t. rw (eqb→eq v.number 0 (not-not (eqb v.number 0) t)) (if (full k.register) (λ (w : Answer S). eqb w.number 4 ≡ false) (λ _. refl) (λ _. refl)))

module _ {n : ℕ} {e : Engine} (f : Obeys n e) where
  module _ (k : Holding e.State) (κ : Kept f k) where
    -- the allocator's number
    number-below : (c : rules.Call) → (e.answer c k.memory).number ≡ (rules.step n c κ.book).number
    number-below c = ap (λ (v : rules.Voucher). v.number) (f.answers κ.book k.memory c κ.good κ.of)

    no-five : (c : rules.Call) (w : rules.Answer) → below.Outcome n κ.book c w → eqb w.number 5 ≡ false
    no-five c _ (below.refusal j d m) = is_false (eqb j 5) (λ t. let q = eqb→eq j 5 t in omega arith)
    no-five c _ (below.took x r t y) = refl
    no-five c _ (below.gave t y) = refl

    module _ (h s z : ℕ) where
      abbrev his : Bool
      his = any (yours h s z) (held k.register)

      -- a held range is a holder's, has a byte, ends by 2^63, and no byte of it is free
      his-known : T his → T (known h)
      his-known t = subst (λ (x : ℕ). T (known x)) (gone-piece f k κ h s z t).0 (held-good k.register (entries f k κ) (gone f k κ h s z t).range (gone-in f k κ h s z t)).whose

      his-not-four : T his → T (eqb z 0 || (ltb top (s + z) || any (meets s (s + z)) κ.book.chain)) → ⊥
      his-not-four t u =
          let q = (gone f k κ h s z t).range in
          let i = gone-in f k κ h s z t in
          let p = gone-piece f k κ h s z t in let p1 = p.1 in let p2 = p.2 in
          let g = held-good k.register (entries f k κ) q i in let g1 = g.proper in let g2 = g.below in
          elim (or-e (eqb z 0) (ltb top (s + z) || any (meets s (s + z)) κ.book.chain) u) [
            | inl v ↦ let o = eqb→eq z 0 v in omega arith
            | inr v ↦ elim (or-e (ltb top (s + z)) (any (meets s (s + z)) κ.book.chain) v) [
              | inl w ↦ let o = ltb→lt top (s + z) w in omega arith
              | inr w ↦ let m = any→ (meets s (s + z)) κ.book.chain w in
                  let a = ltb→lt m.0.start (s + z) (and_l (ltb m.0.start (s + z)) (leb s m.0.last) m.2) in
                  let b = leb→le s m.0.last (and_r (ltb m.0.start (s + z)) (leb s m.0.last) m.2) in
                  elim (κ.register.clear q i m.0 m.1) [ inl c ↦ omega arith | inr c ↦ omega arith ]
            ]
          ]

      own-told : four_or_five (step e (By h (Free s z)) k).number ≡ not his
      unfolding step asked give_back_lem refuse
      own-told = if (not (known h)) (λ (w : Answer e.State). four_or_five w.number ≡ not his)
          (λ t. sym (ap not (is_false his (λ u. T-no (known h) t (his-known u)))))
          (λ t. other-told k (e.answer (Free s z) k.memory) (not his) _
          (ap (λ (j : ℕ). eqb j 5) (number-below (Free s z)) ∙ no-five (Free s z) _ (outcome n κ.book (Free s z) κ.good))
          (λ u. ap (λ (j : ℕ). eqb j 4) (number-below (Free s z)) ∙ free-four n s z κ.book ∙ is_false (eqb z 0 || (ltb top (s + z) || any (meets s (s + z)) κ.book.chain)) (his-not-four (not-not his u))))

      pub told-by-own : four_or_five (step e (By h (Free s z)) k).number ≡ not (any (exactly s z) (list_of h k.register))
      told-by-own = own-told ∙ ap not (sym (listed h s z k.register))

    -- whether a take by allocate is answered 4: its holder's number, or the allocator's answer
    allocate-is : (h z o : ℕ) → eqb (step e (By h (Allocate z o)) k).number 4 ≡ (not (known h) || eqb (rules.step n (Allocate z o) κ.book).number 4)
    unfolding step asked take refuse
    allocate-is h z o = go (not (known h)) (take-told k (e.answer (Allocate z o) k.memory) (e.next (Allocate z o) k.memory) h (Allocate z o) ∙ ap (λ (j : ℕ). eqb j 4) (number-below (Allocate z o)))
      where
        go : (c : Bool) → eqb (take e h (Allocate z o) k).number 4 ≡ eqb (rules.step n (Allocate z o) κ.book).number 4
            → eqb (cond c (refused 4 k) (take e h (Allocate z o) k)).number 4 ≡ (c || eqb (rules.step n (Allocate z o) κ.book).number 4)
        go true d = refl
        go false d = d

  pub allocate-told : (k d : Holding e.State) → Kept f k → Kept f d → (h z o : ℕ) → eqb (step e (By h (Allocate z o)) k).number 4 ≡ eqb (step e (By h (Allocate z o)) d).number 4
  allocate-told k d κ δ h z o = allocate-is k κ h z o ∙ ap (λ (b : Bool). not (known h) || b) (fours.allocate-told n z o κ.book δ.book) ∙ sym (allocate-is d δ h z o)
