-- A holder's list: what a call makes of it, and that no call of another does anything to it. Assumes nothing.
use mathlib.Core.Path.{◌≡◌, refl, sym, ap, ◌∙◌, subst}
use mathlib.Core.Logic.{◌≢◌, ◌⊎◌, inl, inr}
use mathlib.Core.Bool.{Bool, true, false, not, cond, ◌&&◌}
use mathlib.Core.List.{List, [], ◌∷◌}
use Prim.Native.Nat.{ℕ, suc, ◌+◌, ◌-◌, ◌≤◌, ◌<◌}
use native.Mathlib.Omega.{arith}
use lib.Dec.{T, leb, eqb, eqb→eq, eqb_refl, not_T}
use Rattle.rules.specs.Rules as rules
use Rattle.rules.specs.Rules.{Range, start_of, size, before, Free, frees, from, past}
use Rattle.rules.specs.Sound.{In}
use Rattle.rules_laws.proofs.Lists.{and_l, and_r, T-or-not, T_true, T_false, neq}
use Rattle.rules_engine.specs.Engine.{Engine}
use Rattle.rules_engine.proofs.Obeys.{Obeys}
use Rattle.holder_rules.specs.Register.{known, range_of, held, enter, exactly, yours, leave, by_address, those, of_holder, list_of}
use Rattle.holder_rules.specs.Holders.{Holding, Answer, refused, piece, Call, Offer, By, below, Voucher, voucher, is_of, is_accepted, lacking, moved}
use Rattle.holder_rules.specs.Sound.{Clear}
use Rattle.holder_rules.specs.declared.Entry.{Entry}
use Rattle.holder_laws.proofs.Inserted.{Inserted, inserted→, inserted←, those-in, those-out, in-those→, by-address, in-by-address→}
use Rattle.holder_laws.proofs.Entered.{held-good}
use Rattle.holder_laws.proofs.Outcomes.{Kept, Accepts, Comes, refusal, offers, gives_back, takes}
use Rattle.holder_laws.proofs.Keeps.{gone, gone-in, rest_in, rest-clear, gone-piece, entered, piece-clear, yours-piece, entries}

-- ranges with no byte in common begin at different bytes
other-start : (q p : Range) → q.start ≤ q.last → p.start ≤ p.last → Clear q p → q.start ≢ p.start
other-start q p a b (inl h) d = omega arith
other-start q p a b (inr h) d = omega arith

eq→eqb : (a b : ℕ) → a ≡ b → T (eqb a b)
eq→eqb a b e = subst (λ (x : ℕ). T (eqb a x)) e (eqb_refl a)

module _ {n : ℕ} {e : Engine} (f : Obeys n e) (k : Holding e.State) (κ : Kept f k) where
  -- what an accepted call of h makes of h's list; of any other call it is what it was
  abbrev pub made : ℕ → Call → Answer e.State → List Range
  made h c w = cond (is_of h c && is_accepted (voucher c w)) (moved h (below c) w.address (list_of h k.register)) (list_of h k.register)

  refused-list : (h : ℕ) (c : Call) (j : ℕ) → j ≢ 0 → list_of h k.register ≡ made h c (refused j k)
  refused-list h c j d = sym (ap (λ (b : Bool). cond (is_of h c && b) (moved h (below c) 0 (list_of h k.register)) (list_of h k.register)) (T_false (eqb j 0) (not_T (eqb j 0) (λ t. d (eqb→eq j 0 t)))) ∙ go (is_of h c))
    where
      go : (b : Bool) → cond (b && false) (moved h (below c) 0 (list_of h k.register)) (list_of h k.register) ≡ list_of h k.register
      go true = refl
      go false = refl

  -- h's own range more
  own-more : (h : ℕ) (q : Range) (m : List Entry) → Inserted q (held k.register) (held m) → q.number ≡ h → q.start ≤ q.last → ((p : Range) → In p (held k.register) → Clear q p)
      → list_of h m ≡ before start_of q (list_of h k.register)
  own-more h q m i d l g = by-address q (those (of_holder h) (held k.register)) (those (of_holder h) (held m)) (those-in (of_holder h) q _ _ i (eq→eqb q.number h d))
      (λ p j. let o = in-those→ (of_holder h) (held k.register) p j in other-start q p l (held-good k.register (entries f k κ) p o).proper (g p o))

  -- another's range more
  not_own : (h : ℕ) (q : Range) (l m : List Entry) → Inserted q (held l) (held m) → q.number ≢ h → list_of h l ≡ list_of h m
  not_own h q l m i d = ap by_address (those-out (of_holder h) q (held l) (held m) i (not_T (eqb q.number h) (λ t. d (eqb→eq q.number h t))))

  own-less : (h s z : ℕ) (t : T (Rattle.rules.specs.Rules.any (yours h s z) (held k.register))) → list_of h (leave h s z k.register) ≡ lacking s z (list_of h k.register)
  own-less h s z t =
      let q = (gone f k κ h s z t).range in
      let p = gone-piece f k κ h s z t in
      let good = (held-good k.register (entries f k κ) q (gone-in f k κ h s z t)).proper in
      let e = by-address q (those (of_holder h) (held (leave h s z k.register))) (those (of_holder h) (held k.register))
      (those-in (of_holder h) q _ _ (gone f k κ h s z t).inserted (eq→eqb q.number h p.0))
      (λ r j. let o = in-those→ (of_holder h) (held (leave h s z k.register)) r j in
      other-start q r good (held-good k.register (entries f k κ) r (rest_in f k κ h s z t r o)).proper (rest-clear f k κ h s z t r o)) in
      sym (ap (lacking s z) e ∙ lacking-out q good p.1 p.2 (and_r (eqb q.number h) (exactly s z q) (gone f k κ h s z t).yours))
    where
      lacking-out : (q : Range) → q.start ≤ q.last → q.start ≡ s → suc q.last ≡ s + z → T (exactly s z q)
          → lacking s z (before start_of q (by_address (those (of_holder h) (held (leave h s z k.register))))) ≡ by_address (those (of_holder h) (held (leave h s z k.register)))
      lacking-out q l a b x = Rattle.holder_laws.proofs.Inserted.lacking-before s z q x (by_address (those (of_holder h) (held (leave h s z k.register))))
          (λ r i. not_T (exactly s z r) (λ y.
          let o = in-those→ (of_holder h) (held (leave h s z k.register)) r (in-by-address→ (those (of_holder h) (held (leave h s z k.register))) r i) in
          let g = (held-good k.register (entries f k κ) r (rest_in f k κ h s z t r o)).proper in
          other-start (gone f k κ h s z t).range r (held-good k.register (entries f k κ) (gone f k κ h s z t).range (gone-in f k κ h s z t)).proper g (rest-clear f k κ h s z t r o)
          ((gone-piece f k κ h s z t).1 ∙ sym (eqb→eq r.start s (and_l (eqb r.start s) (eqb (size r) z) y)))))

  pub comes-list : (h : ℕ) (c : Call) (w : Answer e.State) → Comes f k κ.book c w → list_of h w.holding.register ≡ made h c w
  comes-list h _ _ (refusal c j d) = refused-list h c j d
  comes-list h _ _ (offers s z a m) = refl
  comes-list h _ _ (gives_back g s z kn a t) = elim (T-or-not (eqb g h)) [
    | inl u ↦ rw (T_true (eqb g h) u) (subst (λ (x : ℕ). list_of x (leave g s z k.register) ≡ lacking s (s + z - s) (list_of x k.register)) (eqb→eq g h u)
        (own-less g s z t ∙ ap (λ (x : ℕ). lacking s x (list_of g k.register)) (let q : z ≡ s + z - s = omega arith in q)))
    | inr u ↦ rw (T_false (eqb g h) u) (not_own h (gone f k κ g s z t).range (leave g s z k.register) k.register (gone f k κ g s z t).inserted
        (λ d. neq g h u (sym (gone-piece f k κ g s z t).0 ∙ d)))
  ]
  comes-list h _ _ (takes g c x r kn nt a m nf) =
      let into = entered f k κ g c x r kn a m.member m.from m.to nf in
      let apart = piece-clear f k κ g c x r kn a m.member m.from m.to nf in
      let some = a.some_byte in
      elim (T-or-not (eqb g h)) [
        | inl u ↦ rw (T_true (eqb g h) u, T_false (frees c) nt)
            (subst (λ (y : ℕ). list_of y (enter (piece g c x) k.register) ≡ before start_of (rules.range y (from c x) (past c x - 1)) (list_of y k.register)) (eqb→eq g h u)
            (own-more g (range_of (piece g c x)) (enter (piece g c x) k.register) into refl (omega arith) apart))
        | inr u ↦ rw (T_false (eqb g h) u) (sym (not_own h (range_of (piece g c x)) k.register (enter (piece g c x) k.register) into (neq g h u)))
      ]
