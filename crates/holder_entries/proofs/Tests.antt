-- The tests of an entry, in the steps in which code makes them. Assumes nothing.
use mathlib.Core.Path.{◌≡◌, sym, ap, subst}
use mathlib.Core.Logic.{◌≢◌}
use mathlib.Core.Bool.{true, false, not, ◌&&◌}
use Prim.Native.Nat.{ℕ, suc, ◌+◌, ◌-◌, ◌≤◌, ◌<◌}
use native.Mathlib.Omega.{arith}
use lib.Dec.{T, leb, ltb, eqb, leb→le, ltb→lt, le→leb, lt→ltb, eqb→eq, eqb_refl, not_T}
use Rattle.rules.specs.Rules.{size, meets}
use Rattle.rules_laws.proofs.Lists.{and_l, and_r, and_i, T_true, T_false, same_test}
use Rattle.holder_rules.specs.Register.{used, range_of, exactly, yours, hands}
use Rattle.holder_rules.specs.declared.Entry.{Entry}

eq→eqb : (a b : ℕ) → a ≡ b → T (eqb a b)
eq→eqb a b e = subst (λ (x : ℕ). T (eqb a x)) e (eqb_refl a)

-- what it is to be handed
record Handed (e : Entry) (h s z : ℕ) : Type 0 where
  some-holder : e.holder.0 ≢ 0
  holder : e.holder.0 ≡ h
  start : e.start.0 ≡ s
  bytes : suc e.last.0 - e.start.0 ≡ z

module _ (e : Entry) (h s z : ℕ) where
  handed→ : T (hands h s z e) → Handed e h s z
  handed→ t =
      let u = ltb→lt 0 e.holder.0 (and_l (used e) (yours h s z (range_of e)) t) in
      let y = and_r (used e) (yours h s z (range_of e)) t in
      let x = and_r (eqb e.holder.0 h) (exactly s z (range_of e)) y in
      record {
        some-holder = omega arith;
        holder = eqb→eq e.holder.0 h (and_l (eqb e.holder.0 h) (exactly s z (range_of e)) y);
        start = eqb→eq e.start.0 s (and_l (eqb e.start.0 s) (eqb (size (range_of e)) z) x);
        bytes = eqb→eq (size (range_of e)) z (and_r (eqb e.start.0 s) (eqb (size (range_of e)) z) x);
      }

  handed← : Handed e h s z → T (hands h s z e)
  handed← g =
      let n : e.holder.0 ≢ 0 = g.some-holder in
      and_i (used e) (yours h s z (range_of e)) (lt→ltb 0 e.holder.0 (omega arith))
      (and_i (eqb e.holder.0 h) (exactly s z (range_of e)) (eq→eqb e.holder.0 h g.holder)
      (and_i (eqb e.start.0 s) (eqb (size (range_of e)) z) (eq→eqb e.start.0 s g.start) (eq→eqb (size (range_of e)) z g.bytes)))

  unless : (Handed e h s z → ⊥) → false ≡ hands h s z e
  unless f = sym (T_false (hands h s z e) (not_T (hands h s z e) (λ t. f (handed→ t))))

  pub nobodys : e.holder.0 ≡ 0 → false ≡ hands h s z e
  nobodys x = unless (λ g. g.some-holder x)

  pub anothers : e.holder.0 ≢ h → false ≡ hands h s z e
  anothers x = unless (λ g. x g.holder)

  pub elsewhere : e.start.0 ≢ s → false ≡ hands h s z e
  elsewhere x = unless (λ g. x g.start)

  -- of this holder and from this byte on, the size is left to test
  module _ (n : e.holder.0 ≢ 0) (g : e.holder.0 ≡ h) (a : e.start.0 ≡ s) where
    pub no_bytes : e.last.0 < e.start.0 → eqb z 0 ≡ hands h s z e
    no_bytes l = same_test (eqb z 0) (hands h s z e)
        (λ t. let k = eqb→eq z 0 t in handed← (record { some-holder = n; holder = g; start = a; bytes = omega arith }))
        (λ t. let k = (handed→ t).bytes in eq→eqb z 0 (omega arith))

    pub some_bytes : e.start.0 ≤ e.last.0 → z ≡ 0 → false ≡ hands h s z e
    some_bytes l k = unless (λ q. let b = q.bytes in omega arith)

    pub as_many : e.start.0 ≤ e.last.0 → z ≢ 0 → eqb (e.last.0 - e.start.0) (z - 1) ≡ hands h s z e
    as_many l k = same_test (eqb (e.last.0 - e.start.0) (z - 1)) (hands h s z e)
        (λ t. let q = eqb→eq (e.last.0 - e.start.0) (z - 1) t in handed← (record { some-holder = n; holder = g; start = a; bytes = omega arith }))
        (λ t. let q = (handed→ t).bytes in eq→eqb (e.last.0 - e.start.0) (z - 1) (omega arith))

-- ---- a byte in common

module _ (e : Entry) (s z : ℕ) where
  met→ : T (used e && meets s (s + z) (range_of e)) → (0 < e.holder.0) × (e.start.0 < s + z) × (s ≤ e.last.0)
  met→ t =
      let m = and_r (used e) (meets s (s + z) (range_of e)) t in (
        ltb→lt 0 e.holder.0 (and_l (used e) (meets s (s + z) (range_of e)) t),
        ltb→lt e.start.0 (s + z) (and_l (ltb e.start.0 (s + z)) (leb s e.last.0) m),
        leb→le s e.last.0 (and_r (ltb e.start.0 (s + z)) (leb s e.last.0) m),
      )

  met← : 0 < e.holder.0 → e.start.0 < s + z → s ≤ e.last.0 → T (used e && meets s (s + z) (range_of e))
  met← u a l = and_i (used e) (meets s (s + z) (range_of e)) (lt→ltb 0 e.holder.0 u)
      (and_i (ltb e.start.0 (s + z)) (leb s e.last.0) (lt→ltb e.start.0 (s + z) a) (le→leb s e.last.0 l))

  misses : (T (used e && meets s (s + z) (range_of e)) → ⊥) → false ≡ (used e && meets s (s + z) (range_of e))
  misses f = sym (T_false (used e && meets s (s + z) (range_of e)) (not_T (used e && meets s (s + z) (range_of e)) f))

  pub unused-misses : e.holder.0 ≡ 0 → false ≡ (used e && meets s (s + z) (range_of e))
  unused-misses x = misses (λ t. let w = met→ t in omega arith)

  pub ends-before : e.last.0 < s → false ≡ (used e && meets s (s + z) (range_of e))
  ends-before x = misses (λ t. let w = met→ t in omega arith)

  -- a used one that ends at s or past it: where it starts is left to test
  module _ (n : e.holder.0 ≢ 0) (l : s ≤ e.last.0) where
    pub starts-within : s ≤ e.start.0 → ltb (e.start.0 - s) z ≡ (used e && meets s (s + z) (range_of e))
    starts-within x = same_test (ltb (e.start.0 - s) z) (used e && meets s (s + z) (range_of e))
        (λ t. let k = ltb→lt (e.start.0 - s) z t in met← (omega arith) (omega arith) l)
        (λ t. let w = met→ t in lt→ltb (e.start.0 - s) z (omega arith))

    -- one that starts before s has the byte s, if the piece has one
    pub starts-before : e.start.0 < s → true ≡ (used e && meets s (s + z) (range_of e))
    starts-before x = sym (T_true (used e && meets s (s + z) (range_of e)) (met← (omega arith) (omega arith) l))
