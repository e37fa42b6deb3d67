-- Members, orders and tests of the lists of the rules. Assumes nothing.
use mathlib.Core.Path.{◌≡◌, refl, sym, ◌∙◌, ap, subst}
use mathlib.Core.Logic.{◌≢◌, ◌⊎◌, inl, inr}
use mathlib.Core.Bool.{Bool, true, false, not, cond, ◌&&◌, ◌||◌}
use mathlib.Core.List.{List, [], ◌∷◌}
use mathlib.Core.Option.{Option, none, some}
use Prim.Native.Nat.{ℕ, zero, suc, ◌+◌, ◌≤◌, ◌<◌}
use native.Mathlib.Omega.{arith}
use lib.Dec.{T, leb, eqb, leb→le, nleb→lt, eqb→eq, eqb_refl}
use Rattle.rules.specs.Rules.{Range, before, without, any, find, lowest}
use Rattle.rules.specs.Sound.{In, Pairwise}

-- ---- tests

pub if {ℓ κ} : {A : Type ℓ} (c : Bool) (P : A → Type κ) {x y : A} → (T c → P x) → (T (not c) → P y) → P (cond c x y)
if true P f g = f tt
if false P f g = g tt

pub and_l : (a b : Bool) → T (a && b) → T a
and_l true b t = tt
and_l false b t = absurd t

pub and_r : (a b : Bool) → T (a && b) → T b
and_r true b t = t
and_r false b t = absurd t

pub and_i : (a b : Bool) → T a → T b → T (a && b)
and_i true b s t = t
and_i false b s t = absurd s

pub or-e : (a b : Bool) → T (a || b) → T a ⊎ T b
or-e true b t = inl tt
or-e false b t = inr t

pub or_l : (a b : Bool) → T a → T (a || b)
or_l true b t = tt
or_l false b t = absurd t

pub or_r : (a b : Bool) → T b → T (a || b)
or_r true b t = tt
or_r false b t = t

pub or-false : (a b : Bool) → b ≡ false → (a || b) ≡ a
or-false true b e = refl
or-false false b e = e

pub not-and : (a b : Bool) → T (not (a && b)) → T a → T (not b)
not-and true b t s = t
not-and false b t s = absurd s

pub T-no : (b : Bool) → T (not b) → T b → ⊥
T-no true s t = s
T-no false s t = t

pub T-or-not : (b : Bool) → T b ⊎ T (not b)
T-or-not true = inl tt
T-or-not false = inr tt

pub same_test : (a b : Bool) → (T a → T b) → (T b → T a) → a ≡ b
same_test true true f g = refl
same_test true false f g = absurd (f tt)
same_test false true f g = absurd (g tt)
same_test false false f g = refl

pub T_true : (b : Bool) → T b → b ≡ true
T_true true t = refl
T_true false t = absurd t

pub T_false : (b : Bool) → T (not b) → b ≡ false
T_false true t = absurd t
T_false false t = refl

pub neq : (a b : ℕ) → T (not (eqb a b)) → a ≢ b
neq a b t e = T-no (eqb a b) t (subst (λ (c : ℕ). T (eqb a c)) e (eqb_refl a))

-- ---- members

pub weaker : (R S : Range → Range → Type 0) (l : List Range) → ((q p : Range) → In q l → In p l → R q p → S q p) → Pairwise R l → Pairwise S l
weaker R S [] f h = tt
weaker R S (r ∷ l) f h = (λ q i. f r q (inl refl) (inr i) (h.0 q i), weaker R S l (λ q p i j. f q p (inr i) (inr j)) h.1)

-- two members are one, or one stands after the other
pub compared : (R : Range → Range → Type 0) (l : List Range) → Pairwise R l → (q p : Range) → In q l → In p l → (q ≡ p) ⊎ (R q p ⊎ R p q)
compared R [] h q p x3 _ = elim x3 [ ]
compared R (r ∷ l) h q p (inl e) (inl e') = inl (e ∙ sym e')
compared R (r ∷ l) h q p (inl e) (inr j) = inr (inl (subst (λ (x : Range). R x p) (sym e) (h.0 p j)))
compared R (r ∷ l) h q p (inr i) (inl e') = inr (inr (subst (λ (x : Range). R x q) (sym e') (h.0 q i)))
compared R (r ∷ l) h q p (inr i) (inr j) = compared R l h.1 q p i j

-- ---- putting a range in

pub in-before→ : (key : Range → ℕ) (r : Range) (l : List Range) (q : Range) → In q (before key r l) → (q ≡ r) ⊎ In q l
unfolding before
in-before→ key r [] q = λ i. i
in-before→ key r (p ∷ l) q = if (leb (key r) (key p)) (λ m. In q m → (q ≡ r) ⊎ In q (p ∷ l)) (λ t i. i)
    (λ t i. elim i [ inl e ↦ inr (inl e) | inr j ↦ elim (in-before→ key r l q j) [ inl e ↦ inl e | inr k ↦ inr (inr k) ] ])

pub in-before← : (key : Range → ℕ) (r : Range) (l : List Range) (q : Range) → (q ≡ r) ⊎ In q l → In q (before key r l)
unfolding before
in-before← key r [] q i = i
in-before← key r (p ∷ l) q i = if (leb (key r) (key p)) (λ m. In q m) (λ t. i)
    (λ t. elim i [ inl e ↦ inr (in-before← key r l q (inl e)) | inr j ↦ elim j [ inl e ↦ inl e | inr k ↦ inr (in-before← key r l q (inr k)) ] ])

-- r goes where R wants it, in a list that is in the order of the key
pub pairwise-before : (key : Range → ℕ) (R : Range → Range → Type 0) (r : Range) (l : List Range)
    → Pairwise (λ q p. key q ≤ key p) l → Pairwise R l
    → ((q : Range) → In q l → key r ≤ key q → R r q) → ((q : Range) → In q l → key q < key r → R q r)
    → Pairwise R (before key r l)
unfolding before
pairwise-before key R r [] k h f g = (λ q i. absurd i, tt)
pairwise-before key R r (p ∷ l) k h f g = if (leb (key r) (key p)) (λ m. Pairwise R m)
    (λ t. let le : key r ≤ key p = leb→le (key r) (key p) t in
    (λ q i. elim i [ inl e ↦ f q (inl e) (subst (λ (x : Range). key r ≤ key x) (sym e) le) | inr j ↦ f q (inr j) (omega (arith, k.0 q j)) ], h))
    (λ t. let lt : key p < key r = nleb→lt (key r) (key p) t in (
      λ q i. elim (in-before→ key r l q i) [ inl e ↦ subst (λ (x : Range). R p x) (sym e) (g p (inl refl) lt) | inr j ↦ h.0 q j ],
      pairwise-before key R r l k.1 h.1 (λ q i. f q (inr i)) (λ q i. g q (inr i)),
    ))

-- ---- taking a record out

pub in-without→ : (i : ℕ) (l : List Range) (q : Range) → In q (without i l) → In q l × (i ≢ q.number)
unfolding without
in-without→ i [] q = λ m. absurd m
in-without→ i (p ∷ l) q = if (eqb i p.number) (λ k. In q k → In q (p ∷ l) × (i ≢ q.number))
    (λ t m. (inr (in-without→ i l q m).0, (in-without→ i l q m).1))
    (λ t m. elim m [ inl e ↦ (inl e, subst (λ (x : Range). i ≢ x.number) (sym e) (neq i p.number t)) | inr j ↦ (inr (in-without→ i l q j).0, (in-without→ i l q j).1) ])

pub in-without← : (i : ℕ) (l : List Range) (q : Range) → In q l → i ≢ q.number → In q (without i l)
unfolding without
in-without← i [] q m d = elim m [ ]
in-without← i (p ∷ l) q m d = if (eqb i p.number) (λ k. In q k)
    (λ t. elim m [ inl e ↦ absurd (d (eqb→eq i p.number t ∙ ap (λ (x : Range). x.number) (sym e))) | inr j ↦ in-without← i l q j d ])
    (λ t. elim m [ inl e ↦ inl e | inr j ↦ inr (in-without← i l q j d) ])

pub pairwise-without : (i : ℕ) (R : Range → Range → Type 0) (l : List Range) → Pairwise R l → Pairwise R (without i l)
unfolding without
pairwise-without i R [] h = tt
pairwise-without i R (p ∷ l) h = if (eqb i p.number) (λ k. Pairwise R k)
    (λ t. pairwise-without i R l h.1)
    (λ t. (λ q m. h.0 q (in-without→ i l q m).0, pairwise-without i R l h.1))

-- ---- searching

pub any→ : (p : Range → Bool) (l : List Range) → T (any p l) → (r : Range) × In r l × T (p r)
unfolding any
any→ p [] t = absurd t
any→ p (q ∷ l) t = elim (or-e (p q) (any p l) t) [ inl s ↦ (q, inl refl, s) | inr s ↦ let w = any→ p l s in (w.0, inr w.1, w.2) ]

pub any← : (p : Range → Bool) (l : List Range) (r : Range) → In r l → T (p r) → T (any p l)
unfolding any
any← p [] r x'' t = elim x'' [ ]
any← p (q ∷ l) r (inl e) t = or_l (p q) (any p l) (subst (λ (x : Range). T (p x)) e t)
any← p (q ∷ l) r (inr i) t = or_r (p q) (any p l) (any← p l r i t)

-- what `find` finds
abbrev pub Found : (Range → Bool) → List Range → Option Range → Type 0
Found p l none = (r : Range) → In r l → T (not (p r))
Found p l (some r) = In r l × T (p r)

pub found : (p : Range → Bool) (l : List Range) → Found p l (find p l)
unfolding find
found p [] = λ r i. absurd i
found p (q ∷ l) = if (p q) (λ o. Found p (q ∷ l) o) (λ t. (inl refl, t)) (λ t. further (find p l) (found p l) t)
  where
    further : (o : Option Range) → Found p l o → T (not (p q)) → Found p (q ∷ l) o
    further none h t = λ r i. elim i [ inl e ↦ subst (λ (x : Range). T (not (p x))) (sym e) t | inr j ↦ h r j ]
    further (some r) h t = (inr h.0, h.1)

-- where one member alone passes the test, it is found; where none does, nothing is
pub find-one : (p : Range → Bool) (l : List Range) (r : Range) → In r l → T (p r) → ((q : Range) → In q l → T (p q) → q ≡ r) → find p l ≡ some r
find-one p l r m h f = go (find p l) (found p l)
  where
    go : (o : Option Range) → Found p l o → o ≡ some r
    go none g = absurd (T-no (p r) (g r m) h)
    go (some q) g = ap some (f q g.0 g.1)

pub find_none : (p : Range → Bool) (l : List Range) → ((q : Range) → In q l → T (p q) → ⊥) → find p l ≡ none
find_none p l f = go (find p l) (found p l)
  where
    go : (o : Option Range) → Found p l o → o ≡ none
    go none g = refl
    go (some q) g = absurd (f q g.0 g.1)

-- the lowest unused number: it is one of the k + 1 from i; if not the last, no member has it; it is at most any that no member has
abbrev pub named : ℕ → Range → Bool
named i r = eqb i r.number

pub lowest-unused : (k i : ℕ) (l : List Range) → lowest k i l < i + k → (q : Range) → In q l → lowest k i l ≢ q.number
unfolding lowest
lowest-unused zero i l = λ h. absurd (omega arith)
lowest-unused (suc k) i l = if (any (named i) l) (λ x. x < i + suc k → (q : Range) → In q l → x ≢ q.number)
    (λ t h. lowest-unused k (suc i) l (omega arith))
    (λ t h q m e. T-no (any (named i) l) t (any← (named i) l q m (subst (λ (x : ℕ). T (eqb i x)) e (eqb_refl i))))

pub lowest-least : (k i j : ℕ) (l : List Range) → i ≤ j → ((q : Range) → In q l → j ≢ q.number) → lowest k i l ≤ j
unfolding lowest
lowest-least zero i j l h f = h
lowest-least (suc k) i j l h f = if (any (named i) l) (λ x. x ≤ j)
    (λ t. let w = any→ (named i) l t in
    let d : j ≢ w.0.number = f w.0 w.1 in
    let e : i ≡ w.0.number = eqb→eq i w.0.number w.2 in
    lowest-least k (suc i) j l (omega arith) f)
    (λ t. h)
