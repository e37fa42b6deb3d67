-- What a place says of the register: where the first entry that passes the test stands, or that none does. Assumes nothing.
use mathlib.Core.Path.{◌≡◌, refl, sym, ap, ◌∙◌, subst}
use mathlib.Core.Logic.{◌⊎◌, inl, inr}
use mathlib.Core.Bool.{Bool, true, false, not, cond, ◌&&◌}
use mathlib.Core.List.{List, [], ◌∷◌}
use Prim.Native.Nat.{ℕ, zero, suc, ◌+◌, ◌<◌}
use native.Mathlib.Omega.{arith}
use lib.Dec.{T, not_T}
use Rattle.std.specs.Prelude.{Option, Some, None}
use lib.ListN.{length, set}
use Rattle.rules.specs.Rules.{Range, any}
use Rattle.rules_laws.proofs.Lists.{if, and_i, T-no, T_true, T_false, any→, any←}
use Rattle.holder_rules.specs.Register.{used, range_of, held, full, replace, free, yours, hands}
use Rattle.rules.specs.Sound.{In}
use Rattle.holder_rules.specs.Sound.{Has}
use Rattle.holder_rules.specs.declared.Entry.{Entry}
use Rattle.holder_rules.specs.declared.EntryIndex.{EntryIndex}
use Rattle.holder_entries.specs.Places.{first_from, unused_in, handed_in}

-- k is the number of the first that passes: to replace it is to store there
record Hits (p : Entry → Bool) (l : List Entry) (k : ℕ) : Type 0 where
  within : k < length l
  stored : (e : Entry) → replace p e l ≡ set l k e
  one : Entry
  there : Has one l
  passes : T (p one)

abbrev Says : (Entry → Bool) → ℕ → List Entry → Option EntryIndex → Type 0
Says p i l (Some j) = (k : ℕ) × (j.0 ≡ i + k) × Hits p l k
Says p i l None = (e : Entry) → Has e l → T (not (p e))

says : (p : Entry → Bool) (i : ℕ) (l : List Entry) → Says p i l (first_from p i l)
unfolding first_from replace
says p i [] = λ e h. absurd h
says p i (q ∷ l) = if (p q) (λ w. Says p i (q ∷ l) w)
    (λ t. (0, omega arith, record { within = omega arith; stored = λ e. first t e; one = q; there = inl refl; passes = t }))
    (λ t. later t (first_from p (suc i) l) (says p (suc i) l))
  where
    first : T (p q) → (e : Entry) → cond (p q) (e ∷ l) (q ∷ replace p e l) ≡ e ∷ l
    first t e = if (p q) (λ m. m ≡ e ∷ l) (λ _. refl) (λ f. absurd (T-no (p q) f t))

    passed : T (not (p q)) → (e : Entry) → cond (p q) (e ∷ l) (q ∷ replace p e l) ≡ q ∷ replace p e l
    passed t e = if (p q) (λ m. m ≡ q ∷ replace p e l) (λ f. absurd (T-no (p q) t f)) (λ _. refl)

    later : T (not (p q)) → (w : Option EntryIndex) → Says p (suc i) l w → Says p i (q ∷ l) w
    later t (Some j) s = (
      suc s.0,
      (let e = s.1 in omega arith),
      record {
        within = (let h = s.2.within in omega arith);
        stored = λ e. passed t e ∙ ap (λ (m : List Entry). q ∷ m) (s.2.stored e);
        one = s.2.one;
        there = inr s.2.there;
        passes = s.2.passes;
      },
    )
    later t None s = λ e h. elim h [ inl d ↦ rw d t | inr k ↦ s e k ]

-- ---- full, and yours

pub none-full : (l : List Entry) → ((e : Entry) → Has e l → T (not (free e))) → full l ≡ true
unfolding full
none-full [] f = refl
none-full (q ∷ l) f = go (used q) (f q (inl refl)) (none-full l (λ e h. f e (inr h)))
  where
    go : (t : Bool) → T (not (not t)) → full l ≡ true → (t && full l) ≡ true
    go true h e = e
    go false h e = absurd h

pub some-not-full : (l : List Entry) (e : Entry) → Has e l → T (free e) → full l ≡ false
unfolding full
some-not-full [] e x'' t = elim x'' [ ]
some-not-full (q ∷ l) e (inl d) t = ap (λ (x : Bool). x && full l) (T_false (used q) (rw (sym d) t))
some-not-full (q ∷ l) e (inr h) t = go (used q) (some-not-full l e h t)
  where
    go : (t : Bool) → full l ≡ false → (t && full l) ≡ false
    go true e = e
    go false e = refl

pub any-held→ : (p : Range → Bool) (l : List Entry) → T (any p (held l)) → (e : Entry) × Has e l × T (used e && p (range_of e))
unfolding held any
any-held→ p [] = λ t. absurd t
any-held→ p (q ∷ l) = if (used q) (λ m. T (any p m) → (e : Entry) × Has e (q ∷ l) × T (used e && p (range_of e)))
    (λ u t. here u (any→ p (range_of q ∷ held l) t) (any-held→ p l))
    (λ u t. let w = any-held→ p l t in (w.0, inr w.1, w.2))
  where
    here : T (used q) → (r : Range) × In r (range_of q ∷ held l) × T (p r) → (T (any p (held l)) → (e : Entry) × Has e l × T (used e && p (range_of e))) → (e : Entry) × Has e (q ∷ l) × T (used e && p (range_of e))
    here u (r, inl d, t) f = (q, inl refl, and_i (used q) (p (range_of q)) u (rw (sym d) t))
    here u (r, inr i, t) f = let w = f (any← p (held l) r i t) in (w.0, inr w.1, w.2)

pub any-held← : (p : Range → Bool) (l : List Entry) (e : Entry) → Has e l → T (used e && p (range_of e)) → T (any p (held l))
unfolding held any
any-held← p [] e x'' t = elim x'' [ ]
any-held← p (q ∷ l) e (inl d) t = go (used q) (rw (sym d) t)
  where
    go : (u : Bool) → T (u && p (range_of q)) → T (any p (cond u (range_of q ∷ held l) (held l)))
    go true t = any← p (range_of q ∷ held l) (range_of q) (inl refl) t
    go false t = absurd t
any-held← p (q ∷ l) e (inr h) t = go (used q) (any-held← p l e h t)
  where
    go : (u : Bool) → T (any p (held l)) → T (any p (cond u (range_of q ∷ held l) (held l)))
    go true t = (let w = any→ p (held l) t in any← p (range_of q ∷ held l) w.0 (inr w.1) w.2)
    go false t = t

-- ---- what the two searches find

unused-says : (l : List Entry) → Says free 0 l (unused_in l)
unused-says l = says free 0 l

pub unused-none : (l : List Entry) (w : Option EntryIndex) → w ≡ unused_in l → w ≡ None → full l ≡ true
unused-none l w e n = none-full l (subst (Says free 0 l) (sym e ∙ n) (unused-says l))

-- stored at the place that was found
pub record Stores (p : Entry → Bool) (l : List Entry) (k : ℕ) : Type 0 where
  pub within : k < length l
  pub stored : (e : Entry) → set l k e ≡ replace p e l

found_at : (p : Entry → Bool) (l : List Entry) (k : ℕ) → Says p 0 l (Some (record { 0 = k })) → Hits p l k
found_at p l k s = subst (Hits p l) (let e = s.1 in omega arith) s.2

stores : (p : Entry → Bool) (l : List Entry) (k : ℕ) → Hits p l k → Stores p l k
stores p l k h = record { within = h.within; stored = λ e. sym (h.stored e) }

module _ (l : List Entry) (w : Option EntryIndex) (k : ℕ) (e : w ≡ unused_in l) (a : w ≡ Some (record { 0 = k })) where
  unused-hits : Hits free l k
  unused-hits = found_at free l k (subst (Says free 0 l) (sym e ∙ a) (unused-says l))

  pub unused-stores : Stores free l k
  unused-stores = stores free l k unused-hits

  pub unused-not-full : full l ≡ false
  unused-not-full = some-not-full l unused-hits.one unused-hits.there unused-hits.passes

module _ (h s z : ℕ) (l : List Entry) (w : Option EntryIndex) (e : w ≡ handed_in h s z l) where
  handed-says : Says (hands h s z) 0 l w
  handed-says = subst (Says (hands h s z) 0 l) (sym e) (says (hands h s z) 0 l)

  pub handed-none : w ≡ None → any (yours h s z) (held l) ≡ false
  handed-none n = T_false (any (yours h s z) (held l)) (not_T (any (yours h s z) (held l)) (λ t.
      let v = any-held→ (yours h s z) l t in T-no (hands h s z v.0) (subst (Says (hands h s z) 0 l) n handed-says v.0 v.1) v.2))

  module _ (k : ℕ) (a : w ≡ Some (record { 0 = k })) where
    handed-hits : Hits (hands h s z) l k
    handed-hits = found_at (hands h s z) l k (subst (Says (hands h s z) 0 l) a handed-says)

    pub handed-stores : Stores (hands h s z) l k
    handed-stores = stores (hands h s z) l k handed-hits

    pub handed-any : any (yours h s z) (held l) ≡ true
    handed-any = T_true (any (yours h s z) (held l)) (any-held← (yours h s z) l handed-hits.one handed-hits.there handed-hits.passes)
