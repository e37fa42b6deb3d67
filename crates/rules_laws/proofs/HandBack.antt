-- Handing back what was taken. Assumes nothing.
use mathlib.Core.Path.{◌≡◌, refl, sym, ◌∙◌, ap, subst}
use mathlib.Core.Logic.{◌⊎◌, inl, inr}
use mathlib.Core.Bool.{Bool, not, ◌&&◌}
use mathlib.Core.Option.{Option, none, some}
use Prim.Native.Nat.{ℕ, suc, ◌+◌, ◌-◌, ◌≤◌, ◌<◌}
use native.Mathlib.Omega.{arith}
use lib.Dec.{T, leb, ltb, eqb, leb→le, nleb→lt, ltb→lt, nltb→le, eqb→eq, eqb_refl}
use Rattle.rules.specs.Rules.{top, Range, Book, listing, any, meets, free_at, unused, full, taken, given, lower, upper, alone, Answer, accepted, refuse, free, Call, step, frees, from, past, back}
use Rattle.rules.specs.Sound.{In}
use Rattle.rules_laws.proofs.Lists.{if, and_l, and_r, T-no, T-or-not, same_test, any→, Found, found, lowest-least}
use Rattle.rules.specs.Sound.{Sound}
use Rattle.rules_laws.proofs.Kept.{Takes, Gives, taken-sound, taken-free→, taken-free←, taken-whole, given-sound, given-free→, given-free←, free→, free←}
use Rattle.rules_laws.proofs.Outcomes.{Outcome, refusal, took, gave, outcome}
use Rattle.rules_laws.proofs.Bytes.{sound-same}

pub pass : (q : Bool) (k : ℕ) (b : Book) (w : Answer) → (T q → ⊥) → refuse q k b w ≡ w
unfolding refuse
pass q k b w h = if q (λ a. a ≡ w) (λ t. absurd (h t)) (λ t. refl)

-- a free whose piece is as it should be is accepted
pub accepts : (n : ℕ) (b : Book) (s z : ℕ) → Gives n b s (s + z) → free n s z b ≡ accepted 0 (given n s (s + z) b)
unfolding free
accepts n b s z g =
    pass (eqb z 0) 4 b _ (λ t. let e = eqb→eq z 0 t in omega (arith, g.some_byte))
    ∙ (pass (ltb top (s + z)) 4 b _ (λ t. omega (arith, ltb→lt top (s + z) t, g.below))
    ∙ (pass (any (meets s (s + z)) b.chain) 4 b _ (λ t. let w = any→ (meets s (s + z)) b.chain t in
    let lt = ltb→lt w.0.start (s + z) (and_l (ltb w.0.start (s + z)) (leb s w.0.last) w.2) in
    let le = leb→le s w.0.last (and_r (ltb w.0.start (s + z)) (leb s w.0.last) w.2) in
    elim (g.clear w.0 w.1) [ inl h ↦ omega arith | inr h ↦ omega arith ])
    ∙ pass (alone (lower s b) (upper (s + z) b) && full n b) 1 b _ (λ t.
    let u = leb→le n (unused n b) (and_r (alone (lower s b) (upper (s + z) b)) (full n b) t) in
    omega (arith, g.room (and_l (alone (lower s b) (upper (s + z) b)) (full n b) t)))))

module _ (n : ℕ) (b : Book) (r : Range) (a t : ℕ) (s : Sound n b) (k : Takes n b r a t) where
  -- the piece is not free now
  taken_out : (x : ℕ) → a ≤ x → x < t → T (free_at (taken n r a t b) x) → ⊥
  taken_out x h g f = elim (taken-free→ n b r a t s k x f).1 [ inl j ↦ omega arith | inr j ↦ omega arith ]

  now-clear : (q : Range) → In q (taken n r a t b).chain → (suc q.last ≤ a) ⊎ (t ≤ q.start)
  now-clear q i = let s' = taken-sound n b r a t s k in let p = (s'.good q i).proper in
      elim (taken-free→ n b r a t s k q.start (free← (taken n r a t b) q.start q i (omega arith) p)).1 [
        | inr h ↦ inr h
        | inl h ↦ elim (T-or-not (leb a q.last)) [
          | inl g ↦ absurd (taken_out a (omega arith) k.some_byte (free← (taken n r a t b) a q i (omega arith) (leb→le a q.last g)))
          | inr g ↦ inl (nleb→lt a q.last g)
        ]
      ]

  -- it touches what remains of r; and if nothing remains, the record of r is there to be used
  now-room : (lo hi : Option Range) → Found (λ q. eqb (suc q.last) a) (taken n r a t b).chain lo → Found (λ q. eqb q.start t) (taken n r a t b).chain hi
      → T (alone lo hi) → unused n (taken n r a t b) < n
  unfolding unused
  now-room none (some _) f g h = elim h [ ]
  now-room (some _) hi f g h = elim h [ ]
  now-room none none f g h =
      let low : a ≤ r.start = elim (T-or-not (ltb r.start a)) [
        | inr j ↦ nltb→le r.start a j
        | inl j ↦ let lt = ltb→lt r.start a j in
            let w = free→ (taken n r a t b) (a - 1) (taken-free← n b r a t s k (a - 1) (free← b (a - 1) r k.member (omega arith) (omega (arith, k.some_byte, k.to))) (inl (omega arith))) in
            absurd (elim (now-clear w.0 w.1) [
              | inl c ↦ T-no (eqb (suc w.0.last) a) (f w.0 w.1) (subst (λ (y : ℕ). T (eqb (suc w.0.last) y)) (omega arith) (eqb_refl (suc w.0.last)))
              | inr c ↦ omega (arith, k.some_byte)
            ])
      ] in
      let high : r.last < t = elim (T-or-not (leb t r.last)) [
        | inr j ↦ nleb→lt t r.last j
        | inl j ↦ let le = leb→le t r.last j in
            let w = free→ (taken n r a t b) t (taken-free← n b r a t s k t (free← b t r k.member (omega (arith, k.some_byte, k.from)) le) (inr (omega arith))) in
            absurd (elim (now-clear w.0 w.1) [
              | inl c ↦ omega (arith, k.some_byte)
              | inr c ↦ T-no (eqb w.0.start t) (g w.0 w.1) (subst (λ (y : ℕ). T (eqb w.0.start y)) (omega arith) (eqb_refl w.0.start))
            ])
      ] in
      omega (arith, (s.good r k.member).known, lowest-least n 0 r.number (taken n r a t b).chain (omega arith) (taken-whole n b r a t s k low high))

  can-give : Gives n (taken n r a t b) a t
  can-give = record {
    some_byte = k.some_byte;
    below = omega (arith, k.to, (s.good r k.member).below);
    clear = now-clear;
    room = now-room (lower a (taken n r a t b)) (upper t (taken n r a t b)) (found _ (taken n r a t b).chain) (found _ (taken n r a t b).chain);
  }

  restored : listing (given n a t (taken n r a t b)) ≡ listing b
  restored = let s' = taken-sound n b r a t s k in
      sound-same n (given n a t (taken n r a t b)) b (given-sound n (taken n r a t b) a t s' can-give) s
      (λ x. same_test (free_at (given n a t (taken n r a t b)) x) (free_at b x)
      (λ p. elim (given-free→ n (taken n r a t b) a t s' can-give x p) [ inl q ↦ (taken-free→ n b r a t s k x q).0 | inr q ↦ free← b x r k.member (omega (arith, k.from)) (omega (arith, k.to)) ])
      (λ p. given-free← n (taken n r a t b) a t s' can-give x (elim (T-or-not (ltb x a)) [
        | inl h ↦ inl (taken-free← n b r a t s k x p (inl (ltb→lt x a h)))
        | inr h ↦ elim (T-or-not (ltb x t)) [ inl g ↦ inr (nltb→le x a h, ltb→lt x t g) | inr g ↦ inl (taken-free← n b r a t s k x p (inr (nltb→le x t g))) ]
      ])))

  -- with the size in place of the end
  handed : ((free n a (t - a) (taken n r a t b)).number ≡ 0) × (listing (free n a (t - a) (taken n r a t b)).book ≡ listing b)
  handed = let e : t ≡ a + (t - a) = omega (arith, k.some_byte) in
      let v = accepts n (taken n r a t b) a (t - a) (subst (λ (y : ℕ). Gives n (taken n r a t b) a y) e can-give) in
      (ap (λ (w : Answer). w.number) v, ap (λ (w : Answer). listing w.book) v ∙ (ap (λ (y : ℕ). listing (given n a y (taken n r a t b))) (sym e) ∙ restored))

after-back : (n : ℕ) (b : Book) (c : Call) → Sound n b → (w : Answer) → Outcome n b c w → T (not (frees c)) → w.number ≡ 0
    → ((step n (back c w.address) w.book).number ≡ 0) × (listing (step n (back c w.address) w.book).book ≡ listing b)
unfolding step
after-back n b c s _ (refusal k h m) f e = absurd (h e)
after-back n b c s _ (took x r g h) f e = handed n b r (from c x) (past c x) s h
after-back n b c s _ (gave g h) f e = absurd (T-no (frees c) f g)

pub step_back : (n : ℕ) (b : Book) (c : Call) → Sound n b → T (not (frees c)) → (step n c b).number ≡ 0
    → ((step n (back c (step n c b).address) (step n c b).book).number ≡ 0) × (listing (step n (back c (step n c b).address) (step n c b).book).book ≡ listing b)
step_back n b c s f e = after-back n b c s (step n c b) (outcome n b c s) f e
