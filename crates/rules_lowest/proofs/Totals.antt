-- What an accepted call makes of the total, counted from its voucher. Assumes nothing.
use mathlib.Core.Path.{◌≡◌, refl, sym, ◌∙◌, ap}
use mathlib.Core.Logic.{◌≢◌, ◌⊎◌, inl, inr}
use mathlib.Core.Bool.{Bool, true, false, not, cond, ◌&&◌}
use Prim.Native.Nat.{ℕ, zero, suc, ◌+◌, ◌-◌, min, ◌≤◌, ◌<◌}
use native.Mathlib.Omega.{arith}
use lib.Dec.{T, leb, ltb, leb→le, nleb→lt, ltb→lt, nltb→le}
use borrow.Author.Tests.{le-leb, lt-ltb, lt-leb, le-ltb, eq-eqb}
use Rattle.rules.specs.Rules.{top, Book, total, free_at, count, Answer, Call, step, voucher, frees, from, past, covers}
use Rattle.rules.specs.Sound.{Sound}
use Rattle.rules_laws.proofs.Lists.{T-or-not}
use Rattle.rules_laws.proofs.Bytes.{sound-total}
use Rattle.rules_laws.proofs.Steps.{step-sound, step-free, step-covers}
use Rattle.rules_laws.proofs.Outcomes.{Outcome, refusal, took, gave, outcome}
use Rattle.rules_lowest.specs.Lowest.{counted}

-- ---- bytes that one set has and the other has not

count-moved : (m : ℕ) (p q : ℕ → Bool) (a t : ℕ) → ((x : ℕ) → a ≤ x → x < t → (p x ≡ false) × (q x ≡ true)) → ((x : ℕ) → (x < a) ⊎ (t ≤ x) → p x ≡ q x) → count m q ≡ count m p + (min m t - a)
unfolding count
count-moved zero p q a t f g = omega arith
count-moved (suc m) p q a t f g =
    let i = count-moved m p q a t f g in
    elim (T-or-not (leb a m)) [
      | inr h ↦ let k = nleb→lt a m h in let e : ◌≡◌ {A = ℕ} (cond (p m) 1 0) (cond (q m) 1 0) = ap (λ (d : Bool). cond d 1 0) (g m (inl k)) in omega arith
      | inl h ↦ elim (T-or-not (ltb m t)) [
        | inr j ↦ let k = nltb→le m t j in let e : ◌≡◌ {A = ℕ} (cond (p m) 1 0) (cond (q m) 1 0) = ap (λ (d : Bool). cond d 1 0) (g m (inr k)) in omega arith
        | inl j ↦
            let k = leb→le a m h in
            let l = ltb→lt m t j in
            let e : ◌≡◌ {A = ℕ} (cond (p m) 1 0) 0 = ap (λ (d : Bool). cond d 1 0) (f m k l).0 in
            let d : ◌≡◌ {A = ℕ} (cond (q m) 1 0) 1 = ap (λ (d : Bool). cond d 1 0) (f m k l).1 in
            omega arith
      ]
    ]

-- ---- a call

-- what an accepted call covers lies below 2^63
past-below : (n : ℕ) (b : Book) (c : Call) → Sound n b → (w : Answer) → Outcome n b c w → w.number ≡ 0 → past c w.address ≤ top
past-below n b c s _ (refusal k h m) e = absurd (h e)
past-below n b c s _ (took x r f h) e = let g = (s.good r h.member).below in let t = h.to in omega arith
past-below n b c s _ (gave f h) e = h.below

-- a refused call leaves the book
refused-book : (n : ℕ) (b : Book) (c : Call) (w : Answer) → Outcome n b c w → w.number ≢ 0 → w.book ≡ b
refused-book n b c _ (refusal k h m) d = refl
refused-book n b c _ (took x r f h) d = absurd (d refl)
refused-book n b c _ (gave f h) d = absurd (d refl)

module _ (n : ℕ) (b : Book) (c : Call) (s : Sound n b) where
  abbrev w : Answer
  w = step n c b

  abbrev a : ℕ
  a = from c w.address

  abbrev t : ℕ
  t = past c w.address

  pub refused-total : w.number ≢ 0 → total w.book ≡ total b
  refused-total d = ap total (refused-book n b c w (outcome n b c s) d)

  module _ (ok : w.number ≡ 0) where
    covers-inside : (x : ℕ) → a ≤ x → x < t → covers (voucher c w) x ≡ true
    covers-inside x h g = rw (eq-eqb w.number 0 ok, le-leb a x h, lt-ltb x t g)

    covers-outside : (x : ℕ) → (x < a) ⊎ (t ≤ x) → covers (voucher c w) x ≡ false
    covers-outside x (inl h) = rw (eq-eqb w.number 0 ok, lt-leb a x h)
    covers-outside x (inr h) = rw (eq-eqb w.number 0 ok, le-ltb x t h) (no-and (leb a x))
      where
        no-and : (d : Bool) → (d && false) ≡ false
        no-and true = refl
        no-and false = refl

    inside-now : (x : ℕ) → a ≤ x → x < t → free_at w.book x ≡ frees c
    inside-now x h g = step-free n b c s x ∙ ap (λ (d : Bool). cond d (frees c) (free_at b x)) (covers-inside x h g)

    inside-was : (x : ℕ) → a ≤ x → x < t → free_at b x ≡ not (frees c)
    inside-was x h g = step-covers n b c s x (subst-true (covers-inside x h g))
      where
        subst-true : {d : Bool} → d ≡ true → T d
        subst-true e = rw e tt

    outside-same : (x : ℕ) → (x < a) ⊎ (t ≤ x) → free_at b x ≡ free_at w.book x
    outside-same x h = sym (step-free n b c s x ∙ ap (λ (d : Bool). cond d (frees c) (free_at b x)) (covers-outside x h))

    counts-was : total b ≡ count top (free_at b)
    counts-was = sound-total n b s

    counts-now : total w.book ≡ count top (free_at w.book)
    counts-now = sound-total n w.book (step-sound n b c s)

    ends : t ≤ top
    ends = past-below n b c s w (outcome n b c s) ok

    gave-total : frees c ≡ true → total w.book ≡ total b + (t - a)
    gave-total e =
        let m = count-moved top (free_at b) (free_at w.book) a t (λ x h g. (inside-was x h g ∙ ap not e, inside-now x h g ∙ e)) outside-same in
        omega (arith, counts-was, counts-now, ends)

    took-total : frees c ≡ false → total w.book ≡ total b - (t - a)
    took-total e =
        let m = count-moved top (free_at w.book) (free_at b) a t (λ x h g. (inside-now x h g ∙ e, inside-was x h g ∙ ap not e)) (λ x h. sym (outside-same x h)) in
        omega (arith, counts-was, counts-now, ends)

    pub accepted-total : total w.book ≡ counted (total b) (voucher c w)
    accepted-total = go (frees c) refl
      where
        go : (d : Bool) → frees c ≡ d → total w.book ≡ cond d (total b + (t - a)) (total b - (t - a))
        go true e = gave-total e
        go false e = took-total e
