-- One range more in a list, wherever it stands. Assumes nothing.
use mathlib.Core.Path.{◌≡◌, refl, sym, ap, ◌∙◌, subst}
use mathlib.Core.Logic.{◌≢◌, ◌⊎◌, inl, inr}
use mathlib.Core.Bool.{Bool, true, false, not, cond}
use mathlib.Core.List.{List, [], ◌∷◌}
use Prim.Native.Nat.{ℕ, ◌+◌, ◌≤◌, ◌<◌}
use native.Mathlib.Omega.{arith}
use lib.Dec.{T, leb, leb→le, nleb→lt}
use Rattle.rules.specs.Rules.{Range, start_of, size, sum, before}
use Rattle.rules.specs.Sound.{In, Pairwise}
use Rattle.rules_laws.proofs.Lists.{if, T-no, in-before→}
use Rattle.holder_rules.specs.Register.{by_address, those, exactly}
use Rattle.holder_rules.specs.Holders.{lacking}
use Rattle.holder_rules.specs.Sound.{Clear}

pub data Inserted (q : Range) : List Range → List Range → Type 0 where
  here : (l : List Range) → Inserted q l (q ∷ l)
  there : (p : Range) (l m : List Range) → Inserted q l m → Inserted q (p ∷ l) (p ∷ m)

pub inserted→ : (q : Range) (l m : List Range) → Inserted q l m → (p : Range) → In p m → (p ≡ q) ⊎ In p l
inserted→ q _ _ (here l) p i = i
inserted→ q _ _ (there r l m h) p i = elim i [ inl e ↦ inr (inl e) | inr j ↦ elim (inserted→ q l m h p j) [ inl e ↦ inl e | inr k ↦ inr (inr k) ] ]

pub inserted← : (q : Range) (l m : List Range) → Inserted q l m → (p : Range) → (p ≡ q) ⊎ In p l → In p m
inserted← q _ _ (here l) p i = i
inserted← q _ _ (there r l m h) p i = elim i [
  | inl e ↦ inr (inserted← q l m h p (inl e))
  | inr j ↦ elim j [ inl e ↦ inl e | inr k ↦ inr (inserted← q l m h p (inr k)) ]
]

pub clear-sym : (q p : Range) → Clear q p → Clear p q
clear-sym q p (inl h) = inr h
clear-sym q p (inr h) = inl h

pub pairwise-in : (q : Range) (l m : List Range) → Inserted q l m → Pairwise Clear l → ((p : Range) → In p l → Clear q p) → Pairwise Clear m
pairwise-in q _ _ (here l) h f = (f, h)
pairwise-in q _ _ (there r l m k) h f = (
  λ p i. elim (inserted→ q l m k p i) [ inl e ↦ subst (λ (x : Range). Clear r x) (sym e) (clear-sym q r (f r (inl refl))) | inr j ↦ h.0 p j ],
  pairwise-in q l m k h.1 (λ p i. f p (inr i)),
)

pub pairwise-out : (q : Range) (l m : List Range) → Inserted q l m → Pairwise Clear m → Pairwise Clear l × ((p : Range) → In p l → Clear q p)
pairwise-out q _ _ (here l) h = (h.1, h.0)
pairwise-out q _ _ (there r l m k) h = let w = pairwise-out q l m k h.1 in (
  (λ p i. h.0 p (inserted← q l m k p (inr i)), w.0),
  λ p i. elim i [ inl e ↦ subst (λ (x : Range). Clear q x) (sym e) (clear-sym r q (h.0 q (inserted← q l m k q (inl refl)))) | inr j ↦ w.1 p j ],
)

pub sum-in : (q : Range) (l m : List Range) → Inserted q l m → sum m ≡ size q + sum l
unfolding sum
sum-in q _ _ (here l) = refl
sum-in q _ _ (there r l m h) = let e = sum-in q l m h in omega arith

-- ---- those that pass a test

pub those-in : (f : Range → Bool) (q : Range) (l m : List Range) → Inserted q l m → T (f q) → Inserted q (those f l) (those f m)
unfolding those
those-in f q _ _ (here l) t = if (f q) (λ k. Inserted q (those f l) k) (λ _. here (those f l)) (λ g. absurd (T-no (f q) g t))
those-in f q _ _ (there r l m h) t = go (f r) (those-in f q l m h t)
  where
    go : (b : Bool) → Inserted q (those f l) (those f m) → Inserted q (cond b (r ∷ those f l) (those f l)) (cond b (r ∷ those f m) (those f m))
    go true i = there r (those f l) (those f m) i
    go false i = i

pub those-out : (f : Range → Bool) (q : Range) (l m : List Range) → Inserted q l m → T (not (f q)) → those f l ≡ those f m
unfolding those
those-out f q _ _ (here l) t = if (f q) (λ k. those f l ≡ k) (λ g. absurd (T-no (f q) t g)) (λ _. refl)
those-out f q _ _ (there r l m h) t = ap (λ (k : List Range). cond (f r) (r ∷ k) k) (those-out f q l m h t)

pub in-those→ : (f : Range → Bool) (l : List Range) (p : Range) → In p (those f l) → In p l
unfolding those
in-those→ f [] p = λ i. i
in-those→ f (r ∷ l) p = if (f r) (λ k. In p k → In p (r ∷ l))
    (λ t i. elim i [ inl e ↦ inl e | inr j ↦ inr (in-those→ f l p j) ])
    (λ t i. inr (in-those→ f l p i))

-- ---- by address

before_swap : (q r : Range) → q.start ≢ r.start → (l : List Range) → before start_of r (before start_of q l) ≡ before start_of q (before start_of r l)
unfolding before
before_swap q r d [] = go (leb r.start q.start) (leb q.start r.start)
    (λ t u. let a = leb→le r.start q.start t in let b = leb→le q.start r.start u in d (omega arith))
    (λ t u. let a = nleb→lt r.start q.start t in let b = nleb→lt q.start r.start u in omega arith)
  where
    go : (c e : Bool) → (T c → T e → ⊥) → (T (not c) → T (not e) → ⊥) → cond c (r ∷ q ∷ []) (q ∷ r ∷ []) ≡ cond e (q ∷ r ∷ []) (r ∷ q ∷ [])
    go true true f g = absurd (f tt tt)
    go true false f g = refl
    go false true f g = refl
    go false false f g = absurd (g tt tt)
before_swap q r d (p ∷ l) = go (leb r.start p.start) (leb q.start p.start) refl refl (leb r.start q.start) (leb q.start r.start) refl refl
    (λ t u. let a = leb→le r.start q.start t in let b = leb→le q.start r.start u in d (omega arith))
    (λ t u. let a = nleb→lt r.start q.start t in let b = nleb→lt q.start r.start u in omega arith)
    (λ t u v. let x = leb→le q.start p.start t in let y = nleb→lt r.start p.start u in let z = leb→le r.start q.start v in omega arith)
    (λ t u v. let x = leb→le r.start p.start t in let y = nleb→lt q.start p.start u in let z = leb→le q.start r.start v in omega arith)
    (before_swap q r d l)
  where
    go : (a b : Bool) → leb r.start p.start ≡ a → leb q.start p.start ≡ b → (c e : Bool) → leb r.start q.start ≡ c → leb q.start r.start ≡ e
        → (T c → T e → ⊥) → (T (not c) → T (not e) → ⊥) → (T b → T (not a) → T c → ⊥) → (T a → T (not b) → T e → ⊥)
        → before start_of r (before start_of q l) ≡ before start_of q (before start_of r l)
        → before start_of r (cond b (q ∷ p ∷ l) (p ∷ before start_of q l)) ≡ before start_of q (cond a (r ∷ p ∷ l) (p ∷ before start_of r l))
    go true true ea eb true true ec ee f g h k i = absurd (f tt tt)
    go true true ea eb true false ec ee f g h k i = rw (ec, ee, eb)
    go true true ea eb false true ec ee f g h k i = rw (ec, ee, ea)
    go true true ea eb false false ec ee f g h k i = absurd (g tt tt)
    go true false ea eb c true ec ee f g h k i = absurd (k tt tt tt)
    go true false ea eb c false ec ee f g h k i = rw (ea, ee, eb)
    go false true ea eb true e ec ee f g h k i = absurd (h tt tt tt)
    go false true ea eb false e ec ee f g h k i = rw (ec, ea, eb)
    go false false ea eb c e ec ee f g h k i = rw (ea, eb) (ap (λ (m : List Range). p ∷ m) i)

pub by-address : (q : Range) (l m : List Range) → Inserted q l m → ((p : Range) → In p l → q.start ≢ p.start) → by_address m ≡ before start_of q (by_address l)
unfolding by_address
by-address q _ _ (here l) d = refl
by-address q _ _ (there r l m h) d = ap (before start_of r) (by-address q l m h (λ p i. d p (inr i))) ∙ before_swap q r (d r (inl refl)) (by_address l)

pub in-by-address→ : (l : List Range) (p : Range) → In p (by_address l) → In p l
unfolding by_address
in-by-address→ [] p = λ i. i
in-by-address→ (q ∷ l) p = λ i. elim (in-before→ start_of q (by_address l) p i) [ inl e ↦ inl e | inr j ↦ inr (in-by-address→ l p j) ]

-- a range out again, where no other begins and ends as it does
pub lacking-before : (s z : ℕ) (q : Range) → T (exactly s z q) → (l : List Range) → ((p : Range) → In p l → T (not (exactly s z p))) → lacking s z (before start_of q l) ≡ l
unfolding lacking before
lacking-before s z q t [] f = if (exactly s z q) (λ m. m ≡ []) (λ _. refl) (λ g. absurd (T-no (exactly s z q) g t))
lacking-before s z q t (p ∷ l) f = go (leb q.start p.start) (lacking-before s z q t l (λ r i. f r (inr i)))
  where
    first : cond (exactly s z q) (p ∷ l) (q ∷ cond (exactly s z p) l (p ∷ lacking s z l)) ≡ p ∷ l
    first = if (exactly s z q) (λ m. m ≡ p ∷ l) (λ _. refl) (λ g. absurd (T-no (exactly s z q) g t))

    passed : (m : List Range) → m ≡ l → cond (exactly s z p) (before start_of q l) (p ∷ m) ≡ p ∷ l
    passed m e = if (exactly s z p) (λ k. k ≡ p ∷ l) (λ g. absurd (T-no (exactly s z p) (f p (inl refl)) g)) (λ _. ap (λ (k : List Range). p ∷ k) e)

    go : (b : Bool) → lacking s z (before start_of q l) ≡ l → lacking s z (cond b (q ∷ p ∷ l) (p ∷ before start_of q l)) ≡ p ∷ l
    go true i = first
    go false i = passed (lacking s z (before start_of q l)) i
