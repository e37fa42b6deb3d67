-- The lowest unused record, from the marks of the records in use. Assumes nothing.
use Prim.Native.Nat.{ℕ, zero, suc, ◌+◌, ◌-◌, ◌<◌, ◌≤◌}
use mathlib.Core.Bool.{Bool, true, false}
use mathlib.Core.Logic.{inl, inr, ⊎_elim}
use mathlib.Core.List.{List}
use mathlib.Core.Path.{◌≡◌, refl, sym, ap, ◌∙◌, subst}
use lib.ListN.{get_or}
use lib.Dec.{eqb, eqb→eq, eqb_refl, T}
use native.Mathlib.Omega.{arith}
use native.Mathlib.Numerals.{add-one}
use borrow.Author.Tests.{lt-ltb, le-ltb}
use Rattle.std.specs.Prelude.{Some, None}
use Rattle.rules.specs.Rules.{Range, Book, any, lowest, unused}
use Rattle.rules_laws.proofs.Lists.{any→, any←, T_true, T_false, T-or-not, T-no}
use Rattle.pool_state.specs.Shown.{Marked}
use Rattle.pool_state.specs.declared.RecordIndex.{RecordIndex}
use Rattle.linked_lists.proofs.Laws.{below?}
use Rattle.pool_entries.specs.Entries.{slot_of}

pub marked-any : (n : ℕ) (c : List Range) (en : List Bool) → Marked n c en → (i : ℕ) → i < n → get_or en i false ≡ any (λ r. eqb i r.number) c
marked-any n c en m i b =
    let p : Range → Bool = λ r. eqb i r.number in
    elim (T-or-not (any p c)) [
      | inl t ↦ let w = any→ p c t in ap (λ (k : ℕ). get_or en k false) (eqb→eq i w.0.number w.2) ∙ m.on w.0 w.1 ∙ sym (T_true (any p c) t)
      | inr t ↦ m.off i b (λ r j e. T-no (any p c) t (any← p c r j (subst (λ (x : ℕ). T (eqb i x)) e (eqb_refl i)))) ∙ sym (T_false (any p c) t)
    ]

pub lowest-skip : (k i : ℕ) (c : List Range) → 0 < k → any (λ r. eqb i r.number) c ≡ true → lowest k i c ≡ lowest (k - 1) (i + 1) c
unfolding lowest
lowest-skip zero i c h e = absurd (let k : ⊥ = omega arith in k)
lowest-skip (suc k) i c h e = let q : suc k - 1 ≡ k = omega arith in rw (e, add-one i, q)

pub lowest-stop : (k i : ℕ) (c : List Range) → 0 < k → any (λ r. eqb i r.number) c ≡ false → lowest k i c ≡ i
unfolding lowest
lowest-stop zero i c h e = absurd (let k : ⊥ = omega arith in k)
lowest-stop (suc k) i c h e = rw e

pub lowest-end : (i : ℕ) (c : List Range) → lowest 0 i c ≡ i
unfolding lowest
lowest-end i c = refl

-- ---- what the search for an unused record tells

pub unused-is : (n : ℕ) (b : Book) → lowest n 0 b.chain ≡ unused n b
unfolding unused
unused-is n b = refl

pub slot-full : (n i : ℕ) → None ≡ slot_of n i → n ≤ i
slot-full n i = ⊎_elim
    (λ (h : i < n). rw (lt-ltb i n h) (λ e. let z : ◌≡◌ {A = ℕ} 0 1 = cc in absurd (let k : ⊥ = omega arith in k)))
    (λ (h : n ≤ i). λ e. h)
    (below? i n)

pub slot_at : (n i : ℕ) (j : RecordIndex) → Some j ≡ slot_of n i → (j.0 ≡ i) × (i < n)
slot_at n i j = ⊎_elim
    (λ (h : i < n). rw (lt-ltb i n h) (λ e. let q : j ≡ record { 0 = i } = cc in (ap (λ (x : RecordIndex). x.0) q, h)))
    (λ (h : n ≤ i). rw (le-ltb i n h) (λ e. let z : ◌≡◌ {A = ℕ} 0 1 = cc in absurd (let k : ⊥ = omega arith in k)))
    (below? i n)
