-- What one call does to free bytes, to held bytes, and to the number of both. Assumes nothing.
use mathlib.Core.Path.{◌≡◌, refl, sym, ap, ◌∙◌, subst}
use mathlib.Core.Logic.{◌≢◌, ◌⊎◌, inl, inr}
use mathlib.Core.Bool.{Bool, true, false, not, cond, ◌&&◌}
use mathlib.Core.List.{List, [], ◌∷◌}
use Prim.Native.Nat.{ℕ, zero, suc, ◌+◌, ◌-◌, min, ◌≤◌, ◌<◌}
use native.Mathlib.Omega.{arith}
use lib.Dec.{T, leb, ltb, eqb, leb→le, nleb→lt, le→leb, ltb→lt, nltb→le, eqb→eq, eqb_refl, not_T}
use Rattle.rules.specs.Rules as rules
use Rattle.rules.specs.Rules.{top, Range, Book, size, sum, total, any, holds, free_at, Free, frees, from, past, count}
use Rattle.rules.specs.Sound.{In, Sound}
use Rattle.rules_laws.proofs.Lists.{if, and_l, and_r, and_i, T-no, T-or-not, T_true, T_false, same_test, any→, any←}
use Rattle.rules_laws.proofs.Bytes.{sound-total}
use Rattle.rules_laws.proofs.Steps.{step-sound, step-covers}
use Rattle.rules_engine.specs.Engine.{Engine, free_in_lem}
use Rattle.rules_engine.proofs.Obeys.{Obeys}
use Rattle.holder_rules.specs.Register.{known, range_of, held, full, enter, yours, leave}
use Rattle.holder_rules.specs.Holders.{Holding, both, Answer, accepted, refused, piece, Call, Offer, By, below, step, Voucher, voucher, covers, is_offer, is_take_of, held_at, offered_by}
use Rattle.holder_rules.specs.declared.Entry.{Entry}
use Rattle.holder_laws.proofs.Inserted.{inserted→, inserted←, sum-in}
use Rattle.holder_laws.proofs.Outcomes.{Kept, Accepts, Comes, refusal, offers, gives_back, takes, comes}
use Rattle.holder_laws.proofs.Keeps.{Byte, no_byte, inside, inside→, inside←, not-met, free-after, gone, gone-in, rest_in, rest-clear, gone-piece, entered, piece-clear}

pub is_false : (p : Bool) → (T p → ⊥) → p ≡ false
is_false p f = T_false p (not_T p f)

and-false : (a : Bool) → (a && false) ≡ false
and-false true = refl
and-false false = refl

eq→eqb : (a b : ℕ) → a ≡ b → T (eqb a b)
eq→eqb a b e = subst (λ (x : ℕ). T (eqb a x)) e (eqb_refl a)

-- ---- held bytes

abbrev holds_for : ℕ → ℕ → Range → Bool
holds_for h x q = eqb q.number h && holds x q

pub held→ : (h : ℕ) (r : List Entry) (x : ℕ) → T (held_at h r x) → (q : Range) × In q (held r) × (q.number ≡ h) × Byte x q
unfolding held_at
held→ h r x t = let w = any→ (holds_for h x) (held r) t in
    let g = and_r (eqb w.0.number h) (holds x w.0) w.2 in (
      w.0,
      w.1,
      eqb→eq w.0.number h (and_l (eqb w.0.number h) (holds x w.0) w.2),
      (leb→le w.0.start x (and_l (leb w.0.start x) (leb x w.0.last) g), leb→le x w.0.last (and_r (leb w.0.start x) (leb x w.0.last) g)),
    )

held← : (h : ℕ) (r : List Entry) (x : ℕ) (q : Range) → In q (held r) → q.number ≡ h → q.start ≤ x → x ≤ q.last → T (held_at h r x)
unfolding held_at
held← h r x q i e a b = any← (holds_for h x) (held r) q i
    (and_i (eqb q.number h) (holds x q) (eq→eqb q.number h e) (and_i (leb q.start x) (leb x q.last) (le→leb q.start x a) (le→leb x q.last b)))

-- ---- counting

-- p' passes the bytes of the piece besides, and p none of them
pub count-more : (a t : ℕ) (p p' : ℕ → Bool) → a ≤ t → ((x : ℕ) → p' x ≡ cond (inside a t x) true (p x)) → ((x : ℕ) → T (inside a t x) → p x ≡ false)
    → (m : ℕ) → count m p' ≡ count m p + (min t m - min a m)
unfolding count
count-more a t p p' h f g zero = omega arith
count-more a t p p' h f g (suc m) = let i = count-more a t p p' h f g m in
    elim (T-or-not (inside a t m)) [
      | inl v ↦ let w = inside→ a t m v in rw (f m, T_true (inside a t m) v, g m v) (omega arith)
      | inr v ↦ rw (f m, T_false (inside a t m) v) (elim (T-or-not (leb a m)) [
        | inr y ↦ let z = nleb→lt a m y in omega arith
        | inl y ↦ elim (T-or-not (ltb m t)) [
          | inr z ↦ let o = nltb→le m t z in omega arith
          | inl z ↦ absurd (T-no (inside a t m) v (and_i (leb a m) (ltb m t) y z))
        ]
      ])
    ]

module _ {n : ℕ} {e : Engine} (f : Obeys n e) where
  pub book-is : (k : Holding e.State) (κ : Kept f k) → e.book k.memory ≡ κ.book
  book-is k κ = f.shows κ.book k.memory κ.good κ.of

  module _ (k : Holding e.State) (κ : Kept f k) where
    next-book : (c : rules.Call) → e.book (e.next c k.memory) ≡ (rules.step n c κ.book).book
    next-book c = f.shows (rules.step n c κ.book).book (e.next c k.memory) (step-sound n κ.book c κ.good) (f.leaves κ.book k.memory c κ.good κ.of)

    moved-free : (c : rules.Call) (x : ℕ) → Accepts f k κ.book c x → (y : ℕ)
        → free_in_lem e (e.next c k.memory) y ≡ cond (inside (from c x) (past c x) y) (frees c) (free_in_lem e k.memory y)
    moved-free c x a y = ap (λ (b : Book). free_at b y) (next-book c) ∙ free-after f k κ c x a y ∙ ap (λ (b : Book). cond (inside (from c x) (past c x) y) (frees c) (free_at b y)) (sym (book-is k κ))

    not_covered : (c : Call) (j : ℕ) → j ≢ 0 → (x : ℕ) → covers (voucher c (refused j k)) x ≡ false
    not_covered c j d x = ap (λ (b : Bool). b && inside (from (below c) 0) (past (below c) 0) x) (is_false (eqb j 0) (λ t. d (eqb→eq j 0 t)))

    -- a byte that the call covers is free exactly if the call was a free; any other is as it was
    pub comes-free : (c : Call) (w : Answer e.State) → Comes f k κ.book c w → (x : ℕ)
        → free_in_lem e w.holding.memory x ≡ cond (covers (voucher c w) x) (frees (below c)) (free_in_lem e k.memory x)
    comes-free _ _ (refusal c j d) x = sym (ap (λ (b : Bool). cond b (frees (below c)) (free_in_lem e k.memory x)) (not_covered c j d x))
    comes-free _ _ (offers s z a m) x = moved-free (Free s z) 0 a x
    comes-free _ _ (gives_back h s z kn a t) x = moved-free (Free s z) 0 a x
    comes-free _ _ (takes h c y r kn nt a m nf) x = moved-free c y a x

    -- a byte that the call covers is held by h exactly if the call was a take of h; any other is as it was
    pub comes-held : (h : ℕ) (c : Call) (w : Answer e.State) → Comes f k κ.book c w → (x : ℕ)
        → held_at h w.holding.register x ≡ cond (covers (voucher c w) x) (is_take_of h c) (held_at h k.register x)
    comes-held h _ _ (refusal c j d) x = sym (ap (λ (b : Bool). cond b (is_take_of h c) (held_at h k.register x)) (not_covered c j d x))
    comes-held h _ _ (offers s z a m) x = if (inside s (s + z) x) (λ v. held_at h k.register x ≡ v)
        (λ t. let i = inside→ s (s + z) x t in
        is_false (held_at h k.register x) (λ u. let w = held→ h k.register x u in not-met s (s + z) (held k.register) m w.0 w.1 x w.3 i.0 i.1))
        (λ t. refl)
    comes-held h _ _ (gives_back g s z kn a t) x = if (inside s (s + z) x) (λ v. held_at h (leave g s z k.register) x ≡ v)
        (λ u. let i = inside→ s (s + z) x u in let p = gone-piece f k κ g s z t in
        is_false (held_at h (leave g s z k.register) x) (λ v. let w = held→ h (leave g s z k.register) x v in
        no_byte (gone f k κ g s z t).range w.0 (rest-clear f k κ g s z t w.0 w.1) x (let o = p.1 in omega arith, let o = p.2 in omega arith) w.3)
        ∙ sym (and-false (eqb g h)))
        (λ u. same_test (held_at h (leave g s z k.register) x) (held_at h k.register x)
        (λ v. let w = held→ h (leave g s z k.register) x v in held← h k.register x w.0 (rest_in f k κ g s z t w.0 w.1) w.2 w.3.0 w.3.1)
        (λ v. let w = held→ h k.register x v in elim (inserted→ _ _ _ (gone f k κ g s z t).inserted w.0 w.1) [
          | inl d ↦ let p = gone-piece f k κ g s z t in
              let d1 : w.0.start ≡ (gone f k κ g s z t).range.start = ap (λ (q : Range). q.start) d in
              let d2 : w.0.last ≡ (gone f k κ g s z t).range.last = ap (λ (q : Range). q.last) d in
              let o1 = p.1 in let o2 = p.2 in let y = w.3 in
              absurd (T-no (inside s (s + z) x) u (inside← s (s + z) x (omega arith) (omega arith)))
          | inr j ↦ held← h (leave g s z k.register) x w.0 j w.2 w.3.0 w.3.1
        ]))
    comes-held h _ _ (takes g c y r kn nt a m nf) x =
        let into = entered f k κ g c y r kn a m.member m.from m.to nf in
        let apart = piece-clear f k κ g c y r kn a m.member m.from m.to nf in
        let some = a.some_byte in
        if (inside (from c y) (past c y) x) (λ v. held_at h (enter (piece g c y) k.register) x ≡ v)
        (λ u. let i = inside→ (from c y) (past c y) x u in same_test (held_at h (enter (piece g c y) k.register) x) (eqb g h && not (frees c))
        (λ v. let w = held→ h (enter (piece g c y) k.register) x v in elim (inserted→ _ _ _ into w.0 w.1) [
          | inl d ↦ and_i (eqb g h) (not (frees c)) (eq→eqb g h (sym (ap (λ (q : Range). q.number) d) ∙ w.2)) nt
          | inr j ↦ absurd (no_byte (range_of (piece g c y)) w.0 (apart w.0 j) x (i.0, omega arith) w.3)
        ])
        (λ v. held← h (enter (piece g c y) k.register) x (range_of (piece g c y)) (inserted← _ _ _ into (range_of (piece g c y)) (inl refl)) (eqb→eq g h (and_l (eqb g h) (not (frees c)) v)) i.0 (omega arith)))
        (λ u. same_test (held_at h (enter (piece g c y) k.register) x) (held_at h k.register x)
        (λ v. let w = held→ h (enter (piece g c y) k.register) x v in elim (inserted→ _ _ _ into w.0 w.1) [
          | inl d ↦ let d1 : w.0.start ≡ from c y = ap (λ (q : Range). q.start) d in let d2 : w.0.last ≡ past c y - 1 = ap (λ (q : Range). q.last) d in let o = w.3 in
              absurd (T-no (inside (from c y) (past c y) x) u (inside← (from c y) (past c y) x (omega arith) (omega arith)))
          | inr j ↦ held← h k.register x w.0 j w.2 w.3.0 w.3.1
        ])
        (λ v. let w = held→ h k.register x v in held← h (enter (piece g c y) k.register) x w.0 (inserted← _ _ _ into w.0 (inr w.1)) w.2 w.3.0 w.3.1))

    -- ---- the number of free bytes

    counted : total κ.book ≡ count top (free_at κ.book)
    counted = sound-total n κ.book κ.good

    counted_next : (c : rules.Call) → total (rules.step n c κ.book).book ≡ count top (free_at (rules.step n c κ.book).book)
    counted_next c = sound-total n (rules.step n c κ.book).book (step-sound n κ.book c κ.good)

    covered : (c : rules.Call) (x : ℕ) → Accepts f k κ.book c x → (y : ℕ) → T (inside (from c x) (past c x) y) → free_at κ.book y ≡ not (frees c)
    covered c x a y t = step-covers n κ.book c κ.good y (rw (a.number, a.address) t)

    -- an accepted take covers only free bytes, an accepted free none
    pub comes-covers : (c : Call) (w : Answer e.State) → Comes f k κ.book c w → (x : ℕ) → T (covers (voucher c w) x) → free_in_lem e k.memory x ≡ not (frees (below c))
    comes-covers _ _ (refusal c j d) x t = absurd (subst T (not_covered c j d x) t)
    comes-covers _ _ (offers s z a m) x t = ap (λ (b : Book). free_at b x) (book-is k κ) ∙ covered (Free s z) 0 a x t
    comes-covers _ _ (gives_back h s z kn a u) x t = ap (λ (b : Book). free_at b x) (book-is k κ) ∙ covered (Free s z) 0 a x t
    comes-covers _ _ (takes h c y r kn nt a m nf) x t = ap (λ (b : Book). free_at b x) (book-is k κ) ∙ covered c y a x t

    total-freed : (s z : ℕ) → Accepts f k κ.book (Free s z) 0 → total (rules.step n (Free s z) κ.book).book ≡ total κ.book + z
    total-freed s z a =
        let m = count-more s (s + z) (free_at κ.book) (free_at (rules.step n (Free s z) κ.book).book) (omega arith) (free-after f k κ (Free s z) 0 a) (λ x t. covered (Free s z) 0 a x t) top in
        let l = a.below in let x = counted in let y = counted_next (Free s z) in omega arith

    total-taken : (c : rules.Call) (x : ℕ) → T (not (frees c)) → Accepts f k κ.book c x → total κ.book ≡ total (rules.step n c κ.book).book + (past c x - from c x)
    total-taken c x nt a =
        let some = a.some_byte in
        let after : (y : ℕ) → free_at (rules.step n c κ.book).book y ≡ cond (inside (from c x) (past c x) y) false (free_at κ.book y)
        = λ y. free-after f k κ c x a y ∙ ap (λ (b : Bool). cond (inside (from c x) (past c x) y) b (free_at κ.book y)) (T_false (frees c) nt) in
        let m = count-more (from c x) (past c x) (free_at (rules.step n c κ.book).book) (free_at κ.book) (omega arith)
        (λ y. elim (T-or-not (inside (from c x) (past c x) y)) [
          | inl t ↦ covered c x a y t ∙ T_true (not (frees c)) nt ∙ sym (ap (λ (b : Bool). cond b true (free_at (rules.step n c κ.book).book y)) (T_true (inside (from c x) (past c x) y) t))
          | inr t ↦ sym (ap (λ (b : Bool). cond b true (free_at (rules.step n c κ.book).book y)) (T_false (inside (from c x) (past c x) y) t)
              ∙ after y ∙ ap (λ (b : Bool). cond b false (free_at κ.book y)) (T_false (inside (from c x) (past c x) y) t))
        ])
        (λ y t. after y ∙ ap (λ (b : Bool). cond b false (free_at κ.book y)) (T_true (inside (from c x) (past c x) y) t)) top in
        let l = a.below in let p = counted in let q = counted_next c in omega arith

    -- free and held bytes together grow by what an accepted offer brings, and by nothing else
    pub comes-conserved : (c : Call) (w : Answer e.State) → Comes f k κ.book c w
        → total (e.book w.holding.memory) + sum (held w.holding.register) ≡ (total (e.book k.memory) + sum (held k.register)) + offered_by (voucher c w)
    comes-conserved _ _ (refusal c j d) = go (is_offer c) (is_false (eqb j 0) (λ t. d (eqb→eq j 0 t)))
      where
        go : (o : Bool) → eqb j 0 ≡ false → total (e.book k.memory) + sum (held k.register)
            ≡ (total (e.book k.memory) + sum (held k.register)) + cond (o && eqb j 0) (past (below c) 0 - from (below c) 0) 0
        go true q = rw q (omega arith)
        go false q = omega arith
    comes-conserved _ _ (offers s z a m) =
        let x : total (e.book (e.next (Free s z) k.memory)) ≡ total (rules.step n (Free s z) κ.book).book = ap total (next-book (Free s z)) in
        let y : total (e.book k.memory) ≡ total κ.book = ap total (book-is k κ) in
        let t = total-freed s z a in omega arith
    comes-conserved _ _ (gives_back h s z kn a t) =
        let x : total (e.book (e.next (Free s z) k.memory)) ≡ total (rules.step n (Free s z) κ.book).book = ap total (next-book (Free s z)) in
        let y : total (e.book k.memory) ≡ total κ.book = ap total (book-is k κ) in
        let u = total-freed s z a in
        let p = gone-piece f k κ h s z t in let p1 = p.1 in let p2 = p.2 in
        let v = sum-in (gone f k κ h s z t).range _ _ (gone f k κ h s z t).inserted in omega arith
    comes-conserved _ _ (takes h c x r kn nt a m nf) =
        let y : total (e.book (e.next c k.memory)) ≡ total (rules.step n c κ.book).book = ap total (next-book c) in
        let z : total (e.book k.memory) ≡ total κ.book = ap total (book-is k κ) in
        let some = a.some_byte in
        let u = total-taken c x nt a in
        let v = sum-in (range_of (piece h c x)) _ _ (entered f k κ h c x r kn a m.member m.from m.to nf) in omega arith
