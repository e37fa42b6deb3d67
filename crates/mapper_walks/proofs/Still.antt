-- What lies right before a mapping lies right after it. Assumes nothing.
use mathlib.Core.Path.{◌≡◌, ◌∙◌, subst}
use mathlib.Core.Logic.{◌⊎◌, inl, inr}
use mathlib.Core.List.{List}
use Prim.Native.Nat.{ℕ, ◌+◌, ◌-◌, ◌*◌, ◌/◌, ◌≤◌, ◌<◌}
use native.Mathlib.Omega.{arith}
use lib.Dec.{T}
use Rattle.rules.specs.Rules.{Book, free_at}
use Rattle.rules.specs.Sound.{Sound}
use Rattle.rules_laws.proofs.Kept.{free→, free←}
use Rattle.pool_state.specs.Shown.{pool}
use Rattle.mapper_rules.specs.Walk.{span, top_height}
use Rattle.mapper_rules.specs.Numbers.{top_entries}
use Rattle.mapper_laws.specs.declared.Mapping.{Mapping}
use Rattle.mapper_laws.specs.Tree.{Entry, page_of, joined, tables, In}
use Rattle.mapper_laws.specs.Mapping.{wants}
use Rattle.mapper_laws.specs.Promise.{entry_at_lem, top_pages, tables_below, reached, before, wanted, after, Fit, Maps}
use Rattle.mapper_laws.proofs.Apart.{Has}
use Rattle.mapper_laws.proofs.Once.{in-l, in-r, in_either, in-joined, of-joined, has_in, in-has}
use Rattle.mapper_laws.proofs.Handed.{has-mapped, sum-part}
use Rattle.mapper_laws.proofs.Maps.{page-of}
use Rattle.mapper_walks.proofs.Right.{Right}

module _ (q : Mapping) (word : ℕ → ℕ) (vttbr vtcr : ℕ) (page : ℕ → ℕ) (fit : Fit q word vttbr vtcr page) (maps : Maps q word vttbr vtcr page) where
  abbrev H : ℕ
  H = top_height vtcr

  abbrev m : ℕ
  m = top_entries vtcr

  abbrev N : ℕ
  N = wanted q word vttbr vtcr

  abbrev tops : List ℕ
  tops = top_pages vttbr vtcr

  abbrev old : ℕ → List ℕ
  old j = tables page_of H (entry_at_lem word vttbr vtcr j)

  abbrev new : ℕ → List ℕ
  new j = tables page_of H (entry_at_lem (after q word vttbr vtcr page).word vttbr vtcr j)

  abbrev FromDoor : ℕ → Type 0
  FromDoor p = (k : ℕ) × (k < N) × (p ≡ page k / 4096)

  -- a table afterwards was one before, or is a page of the door
  came : (p : ℕ) → In p (reached (after q word vttbr vtcr page).word vttbr vtcr) → In p (reached word vttbr vtcr) ⊎ FromDoor p
  unfolding tables_below wanted
  came p i = elim (in_either p tops (joined m new) i) [
    | inl o ↦ inl (in-l p tops (joined m old) o)
    | inr y ↦
        let at = of-joined m new p y in
        let j = at.0 in
        let E = entry_at_lem word vttbr vtcr j in
        let part = sum-part m (λ i. wants q H (i * span H) (entry_at_lem word vttbr vtcr i)) j at.1 in
        let has = subst (λ (X : Entry). Has page_of H X p) (maps.tree j at.1) (in-has page_of H (entry_at_lem (after q word vttbr vtcr page).word vttbr vtcr j) p at.2) in
        elim (has-mapped q page page_of H (j * span H) (before q word vttbr vtcr j) E p has) [
          | inl o ↦ inl (in-r p tops (joined m old) (in-joined m old j p at.1 (has_in page_of H E p o)))
          | inr z ↦ let few : z.0 < N = let h = z.2 in omega arith in inr (z.0, few, z.3 ∙ page-of (page z.0) (fit.whole z.0 few) (fit.below z.0 few))
        ]
  ]

  -- b is the allocator's book before, and c the one after
  module _ (base high : ℕ) (b c : Book) (sound : Sound pool c) (less : (x : ℕ) → T (free_at c x) → T (free_at b x))
      (gone : (k : ℕ) → k < N → (i : ℕ) → i < 4096 → T (free_at c (page k + i)) → ⊥)
      (from : (k : ℕ) → k < N → base ≤ page k) (to : (k : ℕ) → k < N → page k + 4096 ≤ high) where
    pub still : Right base high b (reached word vttbr vtcr) → Right base high c (reached (after q word vttbr vtcr page).word vttbr vtcr)
    still h = record {
      ranges = λ r i.
          let proper = (sound.good r i).proper in
          let s = free→ b r.start (less r.start (free← c r.start r i (omega arith) proper)) in
          let e = free→ b r.last (less r.last (free← c r.last r i proper (omega arith))) in
          let hs = (h.ranges s.0 s.1).0 in
          let he = (h.ranges e.0 e.1).1 in
          let ls = s.2 in
          let le = e.3 in
          (omega arith, omega arith);
      within = λ p i. elim (came p i) [
        | inl o ↦ h.within p o
        | inr z ↦ let w = fit.whole z.0 z.1 in let f = from z.0 z.1 in let t = to z.0 z.1 in let e = z.2 in (omega arith, omega arith)
      ];
      once = maps.once;
      untouched = λ p x i t e. elim (came p i) [
        | inl o ↦ h.untouched p x o (less x t) e
        | inr z ↦
            let w = fit.whole z.0 z.1 in
            let g = z.2 in
            let a = page z.0 in
            let low : a ≤ x = omega arith in
            let is : x ≡ a + (x - a) = omega arith in
            gone z.0 z.1 (x - a) (omega arith) (subst (λ (y : ℕ). T (free_at c y)) is t)
      ];
    }
