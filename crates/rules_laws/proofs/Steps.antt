-- What one call does to the free bytes. Assumes nothing.
use mathlib.Core.Path.{◌≡◌, refl, sym, ◌∙◌, ap}
use mathlib.Core.Logic.{◌⊎◌, inl, inr}
use mathlib.Core.Bool.{Bool, false, not, cond, ◌&&◌}
use Prim.Native.Nat.{ℕ, ◌≤◌, ◌<◌}
use native.Mathlib.Omega.{arith}
use lib.Dec.{T, leb, ltb, eqb, leb→le, nleb→lt, le→leb, lt→ltb, ltb→lt, nltb→le, eqb→eq, not_T}
use Rattle.rules.specs.Rules.{Book, free_at, taken, given, Answer, refused, Call, step, voucher, frees, from, past, covers}
use Rattle.rules_laws.proofs.Lists.{if, and_l, and_r, and_i, T-no, T-or-not, T_true, T_false, same_test}
use Rattle.rules.specs.Sound.{Sound}
use Rattle.rules_laws.proofs.Kept.{taken-sound, taken-free→, taken-free←, given-sound, given-free→, given-free←, free→, free←}
use Rattle.rules_laws.proofs.Outcomes.{Outcome, refusal, took, gave, outcome}

-- ---- one call

after-sound : (n : ℕ) (b : Book) (c : Call) → Sound n b → (w : Answer) → Outcome n b c w → Sound n w.book
after-sound n b c s _ (refusal k h m) = s
after-sound n b c s _ (took x r f h) = taken-sound n b r (from c x) (past c x) s h
after-sound n b c s _ (gave f h) = given-sound n b (from c 0) (past c 0) s h

abbrev inside : ℕ → ℕ → ℕ → Bool
inside a t x = leb a x && ltb x t

inside→ : (a t x : ℕ) → T (inside a t x) → (a ≤ x) × (x < t)
inside→ a t x h = (leb→le a x (and_l (leb a x) (ltb x t) h), ltb→lt x t (and_r (leb a x) (ltb x t) h))

inside← : (a t x : ℕ) → a ≤ x → x < t → T (inside a t x)
inside← a t x h g = and_i (leb a x) (ltb x t) (le→leb a x h) (lt→ltb x t g)

outside : (a t x : ℕ) → T (not (inside a t x)) → (x < a) ⊎ (t ≤ x)
outside a t x h = elim (T-or-not (leb a x)) [
  | inr g ↦ inl (nleb→lt a x g)
  | inl g ↦ elim (T-or-not (ltb x t)) [ inr k ↦ inr (nltb→le x t k) | inl k ↦ absurd (T-no (inside a t x) h (and_i (leb a x) (ltb x t) g k)) ]
]

is_false : (p : Bool) → (T p → ⊥) → p ≡ false
is_false p f = T_false p (not_T p f)

after_free : (n : ℕ) (b : Book) (c : Call) → Sound n b → (w : Answer) → Outcome n b c w → (x : ℕ)
    → free_at w.book x ≡ cond (covers (voucher c w) x) (frees c) (free_at b x)
after_free n b c s _ (refusal k h m) x =
    if (covers (voucher c (refused k b)) x) (λ y. free_at b x ≡ y) (λ t. absurd (h (eqb→eq k 0 (and_l (eqb k 0) (inside (from c 0) (past c 0) x) t)))) (λ t. refl)
after_free n b c s _ (took y r f h) x =
    if (inside (from c y) (past c y) x) (λ v. free_at (taken n r (from c y) (past c y) b) x ≡ v)
    (λ t. is_false (free_at (taken n r (from c y) (past c y) b) x) (λ p. elim (taken-free→ n b r (from c y) (past c y) s h x p).1 [
      | inl g ↦ let i = inside→ (from c y) (past c y) x t in omega arith
      | inr g ↦ let i = inside→ (from c y) (past c y) x t in omega arith
    ]) ∙ sym (T_false (frees c) f))
    (λ t. same_test _ _ (λ p. (taken-free→ n b r (from c y) (past c y) s h x p).0) (λ p. taken-free← n b r (from c y) (past c y) s h x p (outside (from c y) (past c y) x t)))
after_free n b c s _ (gave f h) x =
    if (inside (from c 0) (past c 0) x) (λ v. free_at (given n (from c 0) (past c 0) b) x ≡ v)
    (λ t. T_true _ (given-free← n b (from c 0) (past c 0) s h x (inr (inside→ (from c 0) (past c 0) x t))) ∙ sym (T_true (frees c) f))
    (λ t. same_test _ _
    (λ p. elim (given-free→ n b (from c 0) (past c 0) s h x p) [ inl q ↦ q | inr q ↦ absurd (T-no (inside (from c 0) (past c 0) x) t (inside← (from c 0) (past c 0) x q.0 q.1)) ])
    (λ p. given-free← n b (from c 0) (past c 0) s h x (inl p)))

-- an accepted take covers only free bytes, an accepted free none
after-covers : (n : ℕ) (b : Book) (c : Call) → Sound n b → (w : Answer) → Outcome n b c w → (x : ℕ) → T (covers (voucher c w) x) → free_at b x ≡ not (frees c)
after-covers n b c s _ (refusal k h m) x t = absurd (h (eqb→eq k 0 (and_l (eqb k 0) (inside (from c 0) (past c 0) x) t)))
after-covers n b c s _ (took y r f h) x t = let i = inside→ (from c y) (past c y) x t in
    T_true (free_at b x) (free← b x r h.member (omega (arith, h.from)) (omega (arith, h.to))) ∙ sym (T_true (not (frees c)) f)
after-covers n b c s _ (gave f h) x t = let i = inside→ (from c 0) (past c 0) x t in
    is_false (free_at b x) (λ p. let w = free→ b x p in elim (h.clear w.0 w.1) [ inl g ↦ omega arith | inr g ↦ omega arith ]) ∙ sym (ap not (T_true (frees c) f))

-- ---- any call

pub step-sound : (n : ℕ) (b : Book) (c : Call) → Sound n b → Sound n (step n c b).book
step-sound n b c s = after-sound n b c s (step n c b) (outcome n b c s)

-- a byte that the call covers is free exactly if the call was a free; any other is as it was
pub step-free : (n : ℕ) (b : Book) (c : Call) → Sound n b → (x : ℕ) → free_at (step n c b).book x ≡ cond (covers (voucher c (step n c b)) x) (frees c) (free_at b x)
step-free n b c s = after_free n b c s (step n c b) (outcome n b c s)

pub step-covers : (n : ℕ) (b : Book) (c : Call) → Sound n b → (x : ℕ) → T (covers (voucher c (step n c b)) x) → free_at b x ≡ not (frees c)
step-covers n b c s = after-covers n b c s (step n c b) (outcome n b c s)
