-- After a mapping the inputs of the range are translated as asked, all others as before. Assumes nothing.
use mathlib.Core.Path.{◌≡◌, refl, sym, ◌∙◌, ap, subst}
use mathlib.Core.Logic.{inl, inr}
use mathlib.Core.Bool.{Bool, true, false, not, cond, ◌&&◌}
use Prim.Native.Nat.{ℕ, zero, suc, ◌+◌, ◌-◌, ◌*◌, ◌/◌, ◌%◌, ◌^◌, ◌≤◌, ◌<◌}
use native.Mathlib.Omega.{arith}
use native.Mathlib.Nat.{div-add-mod', mod-mod, mul-mod_left}
use lib.Arith.{digits_mod}
use lib.Dec.{T, lit≤, lit<, leb, ltb, eqb, leb→le, ltb→lt, eqb→eq, le→leb, lt→ltb}
use Rattle.mapper_rules.specs.Walk.{span, Fault, is_block_lem, leaf}
use Rattle.rules_laws.proofs.Lists.{if, and_l, and_r, and_i, not-and, T-no, T-or-not, T_true, T_false, neq}
use Rattle.mapper_laws.specs.declared.Mapping.{Mapping}
use Rattle.mapper_laws.specs.Tree.{Entry, Ends, Leads, walk_entry, some, sum}
use Rattle.mapper_laws.specs.Mapping.{Sane, in_range, output_of, asked, meets, fits, opens, leaf_word_lem, wants, blocked, mapped}
use Rattle.mapper_laws.proofs.Tests.{not-or-l, not-or-r, not-not}
use Rattle.mapper_laws.proofs.Leaves.{Serves, leaf-asked}
use Rattle.mapper_laws.proofs.Spans.{multiple, index_of, begins-below}

pages : (n : ℕ) → n % 4096 ≡ 0 → n ≡ n / 4096 * 4096
pages n e = let d = div-add-mod' n 4096 in omega arith

module _ (q : Mapping) where
  in-yes : (x : ℕ) → q.from ≤ x → x < q.past → in_range q x ≡ true
  in-yes x l h = T_true (in_range q x) (and_i (leb q.from x) (ltb x q.past) (le→leb q.from x l) (lt→ltb x q.past h))

  in-no : (h e x : ℕ) → T (not (meets q h e)) → e ≤ x → x < e + span h → in_range q x ≡ false
  in-no h e x t low high = elim (T-or-not (in_range q x)) [
    | inl i ↦ absurd (
        let l = leb→le q.from x (and_l (leb q.from x) (ltb x q.past) i) in
        let r = ltb→lt x q.past (and_r (leb q.from x) (ltb x q.past) i) in
        T-no (meets q h e) t (and_i (ltb q.from (e + span h)) (ltb e q.past) (lt→ltb q.from (e + span h) (omega arith)) (lt→ltb e q.past (omega arith))))
    | inr i ↦ T_false (in_range q x) i
  ]

  -- a leaf above level 3 serves the entry
  record Whole (h e : ℕ) : Type 0 where
    low : q.from ≤ e
    high : e + span h ≤ q.past
    serves : Serves q h e

  whole : (h e : ℕ) → Sane q → e % span h ≡ 0 → T (fits q h e) → Whole h e
  whole h e s begins t =
      let a = leb q.from e && leb (e + span h) q.past in
      let b = leb h 2 && eqb (output_of q e % span h) 0 in
      let l = leb→le q.from e (and_l (leb q.from e) (leb (e + span h) q.past) (and_l a b t)) in
      let r = leb→le (e + span h) q.past (and_r (leb q.from e) (leb (e + span h) q.past) (and_l a b t)) in
      let m = s.in_memory in
      record {
        low = l;
        high = r;
        serves = record {
          block = leb→le h 2 (and_l (leb h 2) (eqb (output_of q e % span h) 0) (and_r a b t));
          from = l;
          begins = begins;
          aligned = eqb→eq (output_of q e % span h) 0 (and_r (leb h 2) (eqb (output_of q e % span h) 0) (and_r a b t));
          in_memory = omega arith;
          two-bits = s.two-bits;
        };
      }

  -- a page that meets the range is in it
  whole-page : (e : ℕ) → Sane q → e % span 0 ≡ 0 → T (meets q 0 e) → Whole 0 e
  unfolding span
  whole-page e s begins t =
      let l = ltb→lt q.from (e + span 0) (and_l (ltb q.from (e + span 0)) (ltb e q.past) t) in
      let r = ltb→lt e q.past (and_r (ltb q.from (e + span 0)) (ltb e q.past) t) in
      let m = s.in_memory in
      let e' = pages e begins in
      let f = pages q.from s.from-page in
      let p = pages q.past s.past-page in
      let o = pages q.out s.out-page in
      let low : q.from ≤ e = omega arith in
      let high : e + 4096 ≤ q.past = omega arith in
      let a : output_of q e ≡ (q.out / 4096 + (e / 4096 - q.from / 4096)) * 4096 = omega arith in
      record {
        low = low;
        high = high;
        serves = record {
          block = lit≤ tt;
          from = low;
          begins = begins;
          aligned = rw a (mul-mod_left (q.out / 4096 + (e / 4096 - q.from / 4096)) 4096);
          in_memory = omega arith;
          two-bits = s.two-bits;
        };
      }

  -- ---- one entry

  abbrev After : ℕ → Entry → Entry → ℕ → Type 0
  After h E E' x = walk_entry h E' x ≡ cond (in_range q x) (asked q x) (walk_entry h E x)

  after-leaf : (h e x : ℕ) (E : Entry) → Whole h e → e ≤ x → x < e + span h → walk_entry h (Ends (leaf_word_lem q h e)) x ≡ leaf h (leaf_word_lem q h e) x → After h E (Ends (leaf_word_lem q h e)) x
  after-leaf h e x E w low high r =
      let l = w.low in
      let u = w.high in
      r ∙ leaf-asked q h e x w.serves low high ∙ rw (in-yes x (omega arith) (omega arith))

  after_none : (h e x : ℕ) (E : Entry) → T (not (meets q h e)) → e ≤ x → x < e + span h → After h E E x
  after_none h e x E t low high = rw (in-no h e x t low high)

  -- the type of a leaf is read back
  leaf_type : (h e x : ℕ) → Serves q h e → walk_entry h (Ends (leaf_word_lem q h e)) x ≡ leaf h (leaf_word_lem q h e) x
  unfolding walk_entry span
  leaf_type zero e x s =
      let m = multiple (output_of q e) 4096 s.aligned in
      let k = output_of q e / 4096 in
      let a : leaf_word_lem q 0 e ≡ (k * 1024 + (16 * q.permission + 463)) * 4 + 3 = omega arith in
      let b : leaf_word_lem q 0 e % 4 ≡ 3 = rw a (digits_mod (k * 1024 + (16 * q.permission + 463)) (lit< tt)) in
      rw b
  leaf_type (suc zero) e x s =
      let m = multiple (output_of q e) (2 ^ 21) s.aligned in
      let k = output_of q e / 2 ^ 21 in
      let a : leaf_word_lem q 1 e ≡ (k * 524288 + (16 * q.permission + 463)) * 4 + 1 = omega arith in
      let b : leaf_word_lem q 1 e % 4 ≡ 1 = rw a (digits_mod (k * 524288 + (16 * q.permission + 463)) (lit< tt)) in
      rw b
  leaf_type (suc (suc zero)) e x s =
      let m = multiple (output_of q e) (2 ^ 30) s.aligned in
      let k = output_of q e / 2 ^ 30 in
      let a : leaf_word_lem q 2 e ≡ (k * 268435456 + (16 * q.permission + 463)) * 4 + 1 = omega arith in
      let b : leaf_word_lem q 2 e % 4 ≡ 1 = rw a (digits_mod (k * 268435456 + (16 * q.permission + 463)) (lit< tt)) in
      rw b
  leaf_type (suc (suc (suc h))) e x s = absurd (let b = s.block in omega arith)

  -- an entry that nobody has written to leads nowhere
  zero-faults : (h x : ℕ) → walk_entry h (Ends 0) x ≡ Fault
  unfolding walk_entry
  zero-faults zero x = refl
  zero-faults (suc h) x = refl

  -- none of 512 is blocked
  none_of : (n : ℕ) (f : ℕ → Bool) → T (not (some n f)) → (j : ℕ) → j < n → T (not (f j))
  unfolding some
  none_of zero f t j h = absurd (omega arith)
  none_of (suc n) f t j h = elim (T-or-not (eqb j n)) [
    | inl e ↦ subst (λ (i : ℕ). T (not (f i))) (sym (eqb→eq j n e)) (not-or-r (some n f) (f n) t)
    | inr e ↦ let d = neq j n e in none_of n f (not-or-l (some n f) (f n) t) j (omega arith)
  ]

  zero-free : (h e : ℕ) → T (not (blocked q h e (Ends 0)))
  unfolding blocked
  zero-free zero e = tt
  zero-free (suc h) e = no (opens q (suc h) e)
    where
      no : (c : Bool) → T (not (c && false))
      no true = tt
      no false = tt

  -- where no table is wanted a leaf fits
  fit : (h e : ℕ) → T (not (opens q h e)) → T (meets q h e) → T (fits q h e)
  fit h e o m = not-not (fits q h e) (not-and (meets q h e) (not (fits q h e)) o m)

  closed : (h e x : ℕ) (E : Entry) → Sane q → e % span h ≡ 0 → e ≤ x → x < e + span h → T (not (opens q h e)) → After h E (cond (meets q h e) (Ends (leaf_word_lem q h e)) E) x
  closed h e x E s begins low high o = if (meets q h e) (λ E'. After h E E' x)
      (λ m. let w = whole h e s begins (fit h e o m) in after-leaf h e x E w low high (leaf_type h e x w.serves))
      (λ m. after_none h e x E m low high)

  absent-faults : (h e d x : ℕ) → T (not (blocked q (suc h) e (Ends d))) → T (opens q (suc h) e) → walk_entry (suc h) (Ends d) x ≡ Fault
  unfolding walk_entry blocked
  absent-faults h e d x t o = rw (T_false (is_block_lem (suc h) d) (not-and (opens q (suc h) e) (is_block_lem (suc h) d) t o))

  below_free : (h e d : ℕ) (f : ℕ → Entry) → T (not (blocked q (suc h) e (Leads d f))) → T (opens q (suc h) e) → (j : ℕ) → j < 512 → T (not (blocked q h (e + j * span h) (f j)))
  unfolding blocked
  below_free h e d f t o = none_of 512 (λ j. blocked q h (e + j * span h) (f j)) (not-and (opens q (suc h) e) (some 512 (λ j. blocked q h (e + j * span h) (f j))) t o)

  through : (h d x : ℕ) (f : ℕ → Entry) → walk_entry (suc h) (Leads d f) x ≡ walk_entry h (f (x / span h % 512)) x
  unfolding walk_entry
  through h d x f = refl

  pub mapped-walk : (page : ℕ → ℕ) (h e n : ℕ) (E : Entry) (x : ℕ) → Sane q → e % span h ≡ 0 → T (not (blocked q h e E)) → e ≤ x → x < e + span h → After h E (mapped q page h e n E) x
  unfolding mapped
  mapped-walk page zero e n E x s begins t low high = if (meets q 0 e) (λ E'. After 0 E E' x)
      (λ m. after-leaf 0 e x E (whole-page e s begins m) low high (leaf_type 0 e x (whole-page e s begins m).serves))
      (λ m. after_none 0 e x E m low high)
  mapped-walk page (suc h) e n (Ends d) x s begins t low high = if (opens q (suc h) e) (λ E'. After (suc h) (Ends d) E' x)
      (λ o. let i = index_of h e x begins low high in
      let j = x / span h % 512 in
      through h _ x _
      ∙ ap (λ (k : ℕ). walk_entry h (mapped q page h (e + k * span h) (suc n + sum k (λ i. wants q h (e + i * span h) (Ends 0))) (Ends 0)) x) (mod-mod (x / span h) 512)
      ∙ mapped-walk page h (e + j * span h) _ (Ends 0) x s (begins-below h e j begins) (zero-free h (e + j * span h)) i.low i.high
      ∙ rw (zero-faults h x, absent-faults h e d x t o))
      (λ o. closed (suc h) e x (Ends d) s begins low high o)
  mapped-walk page (suc h) e n (Leads d f) x s begins t low high = if (opens q (suc h) e) (λ E'. After (suc h) (Leads d f) E' x)
      (λ o. let i = index_of h e x begins low high in
      let j = x / span h % 512 in
      through h _ x _
      ∙ ap (λ (k : ℕ). walk_entry h (mapped q page h (e + k * span h) (n + sum k (λ i. wants q h (e + i * span h) (f i))) (f k)) x) (mod-mod (x / span h) 512)
      ∙ mapped-walk page h (e + j * span h) _ (f j) x s (begins-below h e j begins) (below_free h e d f t o j i.few) i.low i.high
      ∙ rw (through h d x f))
      (λ o. closed (suc h) e x (Leads d f) s begins low high o)
