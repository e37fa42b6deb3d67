-- What a range more or less is in the register. Assumes nothing.
use mathlib.Core.Path.{◌≡◌, refl, sym, ap, ◌∙◌, subst}
use mathlib.Core.Logic.{◌≢◌, ◌⊎◌, inl, inr}
use mathlib.Core.Bool.{Bool, true, false, not, cond, ◌&&◌}
use mathlib.Core.List.{List, [], ◌∷◌}
use Prim.Native.Nat.{ℕ, ◌≤◌, ◌<◌}
use native.Mathlib.Omega.{arith}
use lib.Dec.{T, ltb→lt}
use Rattle.rules.specs.Rules.{Range, any}
use Rattle.rules.specs.Sound.{In}
use Rattle.rules_laws.proofs.Lists.{if, T-no, or-e}
use Rattle.holder_rules.specs.Register.{blank, used, range_of, held, full, replace, free, enter, yours, hands, leave}
use Rattle.holder_rules.specs.Sound.{Has, Held, SoundEntries}
use Rattle.holder_rules.specs.declared.Entry.{Entry}
use Rattle.holder_laws.proofs.Inserted.{Inserted, here, there}

pub enter-inserted : (e : Entry) (r : List Entry) → T (used e) → T (not (full r)) → Inserted (range_of e) (held r) (held (enter e r))
unfolding held full replace
enter-inserted e [] u f = absurd f
enter-inserted e (q ∷ l) u f = go (used q) refl f (enter-inserted e l u)
  where
    go : (b : Bool) → used q ≡ b → T (not (b && full l)) → (T (not (full l)) → Inserted (range_of e) (held l) (held (replace free e l)))
        → Inserted (range_of e) (cond b (range_of q ∷ held l) (held l)) (held (cond (not b) (e ∷ l) (q ∷ replace free e l)))
    go true d f i = rw d (there (range_of q) (held l) (held (replace free e l)) (i f))
    go false d f i = if (used e) (λ m. Inserted (range_of e) (held l) m) (λ _. here (held l)) (λ n. absurd (T-no (used e) n u))

-- the range that is handed back
pub record Left (h s z : ℕ) (r : List Entry) : Type 0 where
  pub range : Range
  pub yours : T (yours h s z range)
  pub inserted : Inserted range (held (leave h s z r)) (held r)

pub leave-inserted : (h s z : ℕ) (r : List Entry) → T (any (yours h s z) (held r)) → Left h s z r
unfolding held replace any
leave-inserted h s z [] t = absurd t
leave-inserted h s z (q ∷ l) t = go (used q) refl (yours h s z (range_of q)) refl t (leave-inserted h s z l)
  where
    passed : used q ≡ true → yours h s z (range_of q) ≡ false → Left h s z l → Left h s z (q ∷ l)
    passed b d w = record { range = w.range; yours = w.yours; inserted = rw (b, d, b) (there (range_of q) (held (leave h s z l)) (held l) w.inserted) }

    unused : used q ≡ false → Left h s z l → Left h s z (q ∷ l)
    unused b w = record { range = w.range; yours = w.yours; inserted = rw (b, b) w.inserted }

    go : (b : Bool) → used q ≡ b → (d : Bool) → yours h s z (range_of q) ≡ d → T (any (yours h s z) (cond b (range_of q ∷ held l) (held l))) → (T (any (yours h s z) (held l)) → Left h s z l)
        → Left h s z (q ∷ l)
    go true b true d t i = record { range = range_of q; yours = subst T (sym d) tt; inserted = rw (b, d) (here (held l)) }
    go true b false d t i =
        passed b d (i (elim (or-e (yours h s z (range_of q)) (any (yours h s z) (held l)) t) [ inl y ↦ absurd (subst T d y) | inr y ↦ y ]))
    go false b c d t i = unused b (i t)

-- ---- entry by entry

pub has-replace : (p : Entry → Bool) (e : Entry) (r : List Entry) (x : Entry) → Has x (replace p e r) → (x ≡ e) ⊎ Has x r
unfolding replace
has-replace p e [] x = λ h. inr h
has-replace p e (q ∷ l) x = if (p q) (λ m. Has x m → (x ≡ e) ⊎ Has x (q ∷ l))
    (λ t h. elim h [ inl d ↦ inl d | inr k ↦ inr (inr k) ])
    (λ t h. elim h [ inl d ↦ inr (inl d) | inr k ↦ elim (has-replace p e l x k) [ inl d ↦ inl d | inr j ↦ inr (inr j) ] ])

pub in-held→ : (r : List Entry) (q : Range) → In q (held r) → (e : Entry) × Has e r × T (used e) × (q ≡ range_of e)
unfolding held
in-held→ [] q = λ i. absurd i
in-held→ (e ∷ l) q = if (used e) (λ m. In q m → (x : Entry) × Has x (e ∷ l) × T (used x) × (q ≡ range_of x))
    (λ u i. elim i [ inl d ↦ (e, inl refl, u, d) | inr j ↦ let w = in-held→ l q j in (w.0, inr w.1, w.2, w.3) ])
    (λ u i. let w = in-held→ l q i in (w.0, inr w.1, w.2, w.3))

pub in-held← : (r : List Entry) (e : Entry) → Has e r → T (used e) → In (range_of e) (held r)
unfolding held
in-held← [] e x'' u = elim x'' [ ]
in-held← (q ∷ l) e (inl d) u = go (used q) (subst (λ (x : Entry). T (used x)) d u)
  where
    go : (b : Bool) → T b → In (range_of e) (cond b (range_of q ∷ held l) (held l))
    go true t = inl (ap range_of d)
    go false t = absurd t
in-held← (q ∷ l) e (inr h) u = go (used q) (in-held← l e h u)
  where
    go : (b : Bool) → In (range_of e) (held l) → In (range_of e) (cond b (range_of q ∷ held l) (held l))
    go true i = inr i
    go false i = i

-- a held range of a sound register
pub held-good : (r : List Entry) → SoundEntries r → (q : Range) → In q (held r) → Held q
held-good r s q i = let w = in-held→ r q i in elim (s.good w.0 w.1) [
  | inl e ↦ absurd (subst (λ (x : Entry). T (used x)) e w.2)
  | inr h ↦ subst Held (sym w.3) h
]

-- entered and left again: the register is as it was
pub leave-enter : (h s z : ℕ) (e : Entry) (r : List Entry) → T (hands h s z e) → ((q : Entry) → Has q r → T (not (hands h s z q))) → ((q : Entry) → Has q r → T (free q) → q ≡ blank)
    → leave h s z (enter e r) ≡ r
unfolding replace
leave-enter h s z e [] t f g = refl
leave-enter h s z e (q ∷ l) t f g = go (used q) refl (leave-enter h s z e l t (λ x i. f x (inr i)) (λ x i. g x (inr i)))
  where
    go : (b : Bool) → used q ≡ b → leave h s z (enter e l) ≡ l → leave h s z (cond (not b) (e ∷ l) (q ∷ replace free e l)) ≡ q ∷ l
    go true d i = if (hands h s z q) (λ m. m ≡ q ∷ l) (λ y. absurd (T-no (hands h s z q) (f q (inl refl)) y)) (λ _. ap (λ (m : List Entry). q ∷ m) i)
    go false d i = if (hands h s z e) (λ m. m ≡ q ∷ l) (λ _. ap (λ (x : Entry). x ∷ l) (sym (g q (inl refl) (subst (λ (b : Bool). T (not b)) (sym d) tt)))) (λ n. absurd (T-no (hands h s z e) n t))
