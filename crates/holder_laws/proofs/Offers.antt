-- A byte that was offered is free or held from then on, so no later offer covers it. Assumes nothing.
use mathlib.Core.Path.{◌≡◌, refl, sym, ap, subst}
use mathlib.Core.Logic.{◌≢◌, ◌⊎◌, inl, inr}
use mathlib.Core.Bool.{Bool, true, false, not, cond, ◌&&◌, ◌||◌}
use mathlib.Core.List.{List, [], ◌∷◌}
use Prim.Native.Nat.{ℕ, zero, suc, ◌+◌, ◌-◌}
use native.Mathlib.Omega.{arith}
use lib.Dec.{T, eqb, eqb→eq, eqb_refl}
use Rattle.rules.specs.Rules.{top, frees, from, past, count}
use Rattle.rules_laws.proofs.Lists.{and_l, and_r, and_i, or-e, or-false, T-or-not}
use Rattle.rules_engine.specs.Engine.{Engine, free_in_lem}
use Rattle.rules_engine.proofs.Obeys.{Obeys}
use Rattle.holder_rules.specs.Register.{held}
use Rattle.holder_rules.specs.Holders.{Holding, Answer, refused, Call, Offer, By, below, step, voucher, run, trail, covers, is_offer, is_take_of, held_at, offered, offered_by, brings, brought}
use Rattle.holder_laws.proofs.Outcomes.{Kept, Comes, refusal, offers, gives_back, takes, comes}
use Rattle.holder_laws.proofs.Keeps.{inside, inside→, not-met, step_keeps}
use Rattle.holder_laws.proofs.Bytes.{is_false, held→, count-more, comes-free, comes-held, comes-covers}

-- ---- counting

count_same : (p q : ℕ → Bool) → ((x : ℕ) → p x ≡ q x) → (m : ℕ) → count m p ≡ count m q
unfolding count
count_same p q h zero = refl
count_same p q h (suc m) = let i = count_same p q h m in rw (h m) (omega arith)

-- of p alone, where q passes none
no_more : (m : ℕ) (p q : ℕ → Bool) → ((x : ℕ) → q x ≡ false) → count m (λ x. p x || q x) ≡ count m p
no_more m p q h = count_same (λ x. p x || q x) p (λ x. or-false (p x) (q x) (h x)) m

or_assoc : (a b c : Bool) → (a || (b || c)) ≡ ((a || b) || c)
or_assoc true b c = refl
or_assoc false b c = refl

or-cond : (a b : Bool) → (a || b) ≡ cond b true a
or-cond true true = refl
or-cond true false = refl
or-cond false true = refl
or-cond false false = refl

module _ {n : ℕ} {e : Engine} (f : Obeys n e) where
  -- free, or held by somebody
  abbrev pub InBox : Holding e.State → ℕ → Type 0
  InBox k x = T (free_in_lem e k.memory x) ⊎ ((h : ℕ) × T (held_at h k.register x))

  module _ (k : Holding e.State) (κ : Kept f k) where
    -- a call frees what it covers, or its holder takes it
    moves : (c : Call) → T (frees (below c)) ⊎ ((h : ℕ) × T (is_take_of h c))
    moves (Offer s z) = inl tt
    moves (By h c) = elim (T-or-not (frees c)) [ inl t ↦ inl t | inr t ↦ inr (h, and_i (eqb h h) (not (frees c)) (eqb_refl h) t) ]

    -- what a call covers, and what was in the box before, is there after it
    stays : (c : Call) (x : ℕ) → InBox k x ⊎ T (covers (voucher c (step e c k)) x) → InBox (step e c k).holding x
    stays c x b =
        let free = comes-free f k κ c (step e c k) (comes f k κ c) x in
        let hold : (h : ℕ) → held_at h (step e c k).holding.register x ≡ cond (covers (voucher c (step e c k)) x) (is_take_of h c) (held_at h k.register x)
        = λ h. comes-held f k κ h c (step e c k) (comes f k κ c) x in
        go (covers (voucher c (step e c k)) x) free hold b
      where
        go : (q : Bool) → free_in_lem e (step e c k).holding.memory x ≡ cond q (frees (below c)) (free_in_lem e k.memory x)
            → ((h : ℕ) → held_at h (step e c k).holding.register x ≡ cond q (is_take_of h c) (held_at h k.register x)) → InBox k x ⊎ T q → InBox (step e c k).holding x
        go true u v b = elim (moves c) [ inl t ↦ inl (subst T (sym u) t) | inr t ↦ inr (t.0, subst T (sym (v t.0)) t.1) ]
        go false u v b = elim b [
          | inl i ↦ elim i [ inl t ↦ inl (subst T (sym u) t) | inr t ↦ inr (t.0, subst T (sym (v t.0)) t.1) ]
          | inr t ↦ absurd t
        ]

    -- a refused call brings nothing
    none-brought : (c : Call) (j : ℕ) → j ≢ 0 → (x : ℕ) → brings (voucher c (refused j k)) x ≡ false
    none-brought c j d x = is_false (brings (voucher c (refused j k)) x) (λ t.
        d (eqb→eq j 0 (and_l (eqb j 0) (inside (from (below c) 0) (past (below c) 0) x) (and_r (is_offer c) (covers (voucher c (refused j k)) x) t))))

    none-offered : (c : Call) (j : ℕ) → j ≢ 0 → offered_by (voucher c (refused j k)) ≡ 0
    none-offered c j d = ap (λ (b : Bool). cond b (past (below c) 0 - from (below c) 0) 0) (is_false (is_offer c && eqb j 0) (λ t. d (eqb→eq j 0 (and_r (is_offer c) (eqb j 0) t))))

    -- an accepted offer covers nothing that is in the box
    pub comes-once : (c : Call) (w : Answer e.State) → Comes f k κ.book c w → (x : ℕ) → InBox k x → brings (voucher c w) x ≡ false
    comes-once _ _ (refusal c j d) x b = none-brought c j d x
    comes-once _ _ (offers s z a m) x b = is_false (inside s (s + z) x) (λ t. elim b [
      | inl u ↦ subst T (comes-covers f k κ (Offer s z) _ (offers s z a m) x t) u
      | inr u ↦ let w = held→ u.0 k.register x u.1 in let i = inside→ s (s + z) x t in not-met s (s + z) (held k.register) m w.0 w.1 x w.3 i.0 i.1
    ])
    comes-once _ _ (gives_back h s z kn a t) x b = refl
    comes-once _ _ (takes h c y r kn nt a m nf) x b = refl

    -- so with what was brought before, whatever it was, the bytes are as many more as it offers
    comes-counted : (c : Call) (w : Answer e.State) → Comes f k κ.book c w → (p : ℕ → Bool) → ((x : ℕ) → T (p x) → InBox k x)
        → count top (λ x. p x || brings (voucher c w) x) ≡ count top p + offered_by (voucher c w)
    comes-counted _ _ (refusal c j d) p h = let i = no_more top p (brings (voucher c (refused j k))) (none-brought c j d) in let o = none-offered c j d in omega arith
    comes-counted _ _ (offers s z a m) p h =
        let g = count-more s (s + z) p (λ x. p x || inside s (s + z) x) (omega arith) (λ x. or-cond (p x) (inside s (s + z) x))
        (λ x t. is_false (p x) (λ u. subst T (comes-once (Offer s z) _ (offers s z a m) x (h x u)) t)) top in
        let l = a.below in omega arith
    comes-counted _ _ (gives_back g s z kn a t) p h = let i = no_more top p (λ x. false) (λ x. refl) in omega arith
    comes-counted _ _ (takes g c y r kn nt a m nf) p h = let i = no_more top p (λ x. false) (λ x. refl) in omega arith

  -- what calls brought is in the box after them
  pub brought-stays : (k : Holding e.State) (cs : List Call) → Kept f k → (x : ℕ) → InBox k x ⊎ T (brought (trail e k cs) x) → InBox (run e k cs) x
  unfolding run trail brought
  brought-stays k [] κ x b = elim b [ inl i ↦ i | inr t ↦ absurd t ]
  brought-stays k (c ∷ cs) κ x b = brought-stays (step e c k).holding cs (step_keeps f c k κ) x (elim b [
    | inl i ↦ inl (stays k κ c x (inl i))
    | inr t ↦ elim (or-e (brings (voucher c (step e c k)) x) (brought (trail e (step e c k).holding cs) x) t) [
      | inl u ↦ inl (stays k κ c x (inr (and_r (is_offer c) (covers (voucher c (step e c k)) x) u)))
      | inr u ↦ inr u
    ]
  ])

  -- they are as many as were offered, beside bytes p that are in the box before
  pub brought-counted : (k : Holding e.State) (cs : List Call) → Kept f k → (p : ℕ → Bool) → ((x : ℕ) → T (p x) → InBox k x)
      → count top (λ x. p x || brought (trail e k cs) x) ≡ count top p + offered (trail e k cs)
  unfolding run trail brought offered
  brought-counted k [] κ p h = let i = no_more top p (λ x. false) (λ x. refl) in omega arith
  brought-counted k (c ∷ cs) κ p h =
      let v = voucher c (step e c k) in
      let vs = trail e (step e c k).holding cs in
      let a = count_same (λ x. p x || (brings v x || brought vs x)) (λ x. (p x || brings v x) || brought vs x) (λ x. or_assoc (p x) (brings v x) (brought vs x)) top in
      let b = brought-counted (step e c k).holding cs (step_keeps f c k κ) (λ x. p x || brings v x) (λ x t. stays k κ c x (elim (or-e (p x) (brings v x) t) [
        | inl u ↦ inl (h x u)
        | inr u ↦ inr (and_r (is_offer c) (covers v x) u)
      ])) in
      let d = comes-counted k κ c (step e c k) (comes f k κ c) p h in omega arith
