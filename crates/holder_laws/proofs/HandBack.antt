-- Handing back what was taken, by the holder who took it. Assumes nothing.
use mathlib.Core.Path.{◌≡◌, refl, sym, ap, ◌∙◌, subst}
use mathlib.Core.Logic.{◌≢◌, ◌⊎◌, inl, inr}
use mathlib.Core.Bool.{Bool, true, false, not, cond, ◌&&◌}
use mathlib.Core.List.{List, [], ◌∷◌}
use Prim.Native.Nat.{ℕ, suc, ◌+◌, ◌-◌, ◌≤◌, ◌<◌}
use native.Mathlib.Omega.{arith}
use lib.Dec.{T, leb, eqb, eqb→eq, eqb_refl, not_T}
use Rattle.rules.specs.Rules as rules
use Rattle.rules.specs.Rules.{Range, Book, size, listing, any, Free, frees, from, past, back}
use Rattle.rules.specs.Sound.{In}
use Rattle.rules_laws.proofs.Lists.{if, and_l, and_r, and_i, T-no, T_true, T_false, any←}
use Rattle.rules_laws.proofs.Steps.{step-sound}
use Rattle.rules_laws.proofs.HandBack.{step_back}
use Rattle.rules_engine.specs.Engine.{Engine}
use Rattle.rules_engine.proofs.Obeys.{Obeys}
use Rattle.holder_rules.specs.Register.{holders, known, blank, used, range_of, held, full, free, enter, exactly, yours, hands, leave}
use Rattle.holder_rules.specs.Holders.{Holding, both, Answer, accepted, refuse, unless_refused, unless_other, give_back_lem, piece, asked, Call, By, step}
use Rattle.holder_rules.specs.Sound.{Clear, Has, Held}
use Rattle.holder_rules.specs.declared.Entry.{Entry}
use Rattle.holder_laws.proofs.Inserted.{inserted←}
use Rattle.holder_laws.proofs.Entered.{in-held←, leave-enter}
use Rattle.holder_laws.proofs.Outcomes.{Kept, Accepts, Comes, refusal, offers, gives_back, takes}
use Rattle.holder_laws.proofs.Keeps.{no_byte, entered, entry-used, piece-clear, entries}

eq→eqb : (a b : ℕ) → a ≡ b → T (eqb a b)
eq→eqb a b e = subst (λ (x : ℕ). T (eqb a x)) e (eqb_refl a)

module _ {n : ℕ} {e : Engine} (f : Obeys n e) (k : Holding e.State) (κ : Kept f k) where
  module _ (h : ℕ) (c : rules.Call) (x : ℕ) (r : Range) (kn : T (known h)) (nt : T (not (frees c))) (a : Accepts f k κ.book c x)
      (i : In r κ.book.chain) (lo : r.start ≤ from c x) (hi : past c x ≤ suc r.last) (nf : T (not (full k.register))) where
    -- the size of the piece
    z : ℕ
    z = past c x - from c x

    mine : T (yours h (from c x) z (range_of (piece h c x)))
    unfolding z
    mine = let s = a.some_byte in
        and_i (eqb h h) (exactly (from c x) z (range_of (piece h c x))) (eqb_refl h)
        (and_i (eqb (from c x) (from c x)) (eqb (suc (past c x - 1) - from c x) z) (eqb_refl (from c x)) (eq→eqb (suc (past c x - 1) - from c x) z (omega arith)))

    there : T (any (yours h (from c x) z) (held (enter (piece h c x) k.register)))
    there = any← (yours h (from c x) z) (held (enter (piece h c x) k.register)) (range_of (piece h c x))
        (inserted← _ _ _ (entered f k κ h c x r kn a i lo hi nf) (range_of (piece h c x)) (inl refl)) mine

    -- no other entry is this piece
    no_other : (q : Entry) → Has q k.register → T (not (hands h (from c x) z q))
    unfolding z
    no_other q j = not_T (hands h (from c x) z q) (λ t.
        let u = and_l (used q) (yours h (from c x) z (range_of q)) t in
        let y = and_r (eqb q.holder.0 h) (exactly (from c x) z (range_of q)) (and_r (used q) (yours h (from c x) z (range_of q)) t) in
        let s1 = eqb→eq q.start.0 (from c x) (and_l (eqb q.start.0 (from c x)) (eqb (size (range_of q)) z) y) in
        let s2 = eqb→eq (size (range_of q)) z (and_r (eqb q.start.0 (from c x)) (eqb (size (range_of q)) z) y) in
        let s = a.some_byte in
        no_byte (range_of (piece h c x)) (range_of q) (piece-clear f k κ h c x r kn a i lo hi nf (range_of q) (in-held← k.register q j u)) (from c x) (omega arith, omega arith) (omega arith, omega arith))

    -- an entry that is not used is blank
    unused-blank : (q : Entry) → Has q k.register → T (free q) → q ≡ blank
    unused-blank q j t = elim ((entries f k κ).good q j) [
      | inl d ↦ d
      | inr g ↦ absurd (T-no (used q) t (and_l (leb 1 q.holder.0) (leb q.holder.0 holders) g.whose))
    ]

    register-back : leave h (from c x) z (enter (piece h c x) k.register) ≡ k.register
    register-back = leave-enter h (from c x) z (piece h c x) k.register
        (and_i (used (piece h c x)) (yours h (from c x) z (range_of (piece h c x))) (entry-used f k κ h c x r kn a i lo hi nf) mine) no_other unused-blank

    k' : Holding e.State
    k' = both (e.next c k.memory) (enter (piece h c x) k.register)

    -- the allocator accepts
    below-back : ((rules.step n (Free (from c x) z) (rules.step n c κ.book).book).number ≡ 0) × (listing (rules.step n (Free (from c x) z) (rules.step n c κ.book).book).book ≡ listing κ.book)
    unfolding z
    below-back = subst (λ (y : ℕ). ((rules.step n (back c y) (rules.step n c κ.book).book).number ≡ 0) × (listing (rules.step n (back c y) (rules.step n c κ.book).book).book ≡ listing κ.book))
        a.address (step_back n κ.book c κ.good nt a.number)

    answer_back : (e.answer (Free (from c x) z) (e.next c k.memory)).number ≡ 0
    answer_back = ap (λ (v : rules.Voucher). v.number) (f.answers (rules.step n c κ.book).book (e.next c k.memory) (Free (from c x) z)
        (step-sound n κ.book c κ.good) (f.leaves κ.book k.memory c κ.good κ.of)) ∙ below-back.0

    book-back : listing (e.book (e.next (Free (from c x) z) (e.next c k.memory))) ≡ listing κ.book
    book-back = ap listing (f.shows (rules.step n (Free (from c x) z) (rules.step n c κ.book).book).book _
        (step-sound n (rules.step n c κ.book).book (Free (from c x) z) (step-sound n κ.book c κ.good))
        (f.leaves (rules.step n c κ.book).book (e.next c k.memory) (Free (from c x) z) (step-sound n κ.book c κ.good) (f.leaves κ.book k.memory c κ.good κ.of))) ∙ below-back.1

    -- the answer of the free
    back_is : step e (By h (Free (from c x) z)) k' ≡ accepted (e.answer (Free (from c x) z) (e.next c k.memory)).address (both (e.next (Free (from c x) z) (e.next c k.memory)) k.register)
    unfolding step asked give_back_lem unless_other unless_refused refuse k'
    back_is = rw (T_true (known h) kn, answer_back, T_true (any (yours h (from c x) z) (held (enter (piece h c x) k.register))) there, register-back)

  pub comes_back : (h : ℕ) (c : rules.Call) (w : Answer e.State) → Comes f k κ.book (By h c) w → T (not (frees c)) → w.number ≡ 0
      → ((step e (By h (back c w.address)) w.holding).number ≡ 0)
      × (listing (e.book (step e (By h (back c w.address)) w.holding).holding.memory) ≡ listing κ.book)
      × ((step e (By h (back c w.address)) w.holding).holding.register ≡ k.register)
  unfolding z k'
  comes_back h _ _ (refusal c j d) nt q = absurd (d q)
  comes_back h _ _ (gives_back g s z kn a t) nt q = absurd nt
  comes_back h _ _ (takes g c x r kn nf a m fu) nt q =
      let b = back_is g c x r kn nt a m.member m.from m.to fu in (
        ap (λ (w : Answer e.State). w.number) b,
        ap (λ (w : Answer e.State). listing (e.book w.holding.memory)) b ∙ book-back g c x r kn nt a m.member m.from m.to fu,
        ap (λ (w : Answer e.State). w.holding.register) b,
      )
