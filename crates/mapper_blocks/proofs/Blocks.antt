-- A block in the way, on each way through. Assumes nothing.
use mathlib.Core.Path.{◌≡◌, refl, sym, ◌∙◌, ap}
use mathlib.Core.Logic.{◌≢◌, inl, inr}
use mathlib.Core.Bool.{Bool, true, false, not, ◌||◌, ◌&&◌, or-true}
use mathlib.Core.List.{List}
use Prim.Native.Nat.{ℕ, zero, suc, ◌+◌, ◌-◌, ◌*◌, ◌%◌, ◌≤◌, ◌<◌}
use native.Mathlib.Omega.{arith}
use native.Mathlib.Nat.{mod-eq_of_lt}
use native.Mathlib.Numerals.{add-one}
use lib.Dec.{ltb, ltb→lt, nltb→le}
use Rattle.rules_laws.proofs.Lists.{if, T-or-not}
use Rattle.mapper_rules.specs.Walk.{span, is_table_lem, is_block_lem}
use Rattle.mapper_laws.specs.declared.Mapping.{Mapping}
use Rattle.mapper_laws.specs.Tree.{Entry, page_of, leads_to, some}
use Rattle.mapper_laws.specs.Mapping.{meets, fits, opens, blocked}
use Rattle.mapper_laws.specs.Arena.{shows}
use Rattle.mapper_words.specs.Heights.{capped}
use Rattle.mapper_blocks.specs.Blocks.{blocked_at, blocked_in}
use Rattle.mapper_blocks.proofs.Strides.{level}

-- ---- whether a table is wanted

module _ (q : Mapping) (h e : ℕ) (m : Bool) (low : h ≤ 3) (met : m ≡ meets q (capped h) e) where
  pub opens-met : (w : Bool) → w ≡ fits q (capped h) e → m ≡ true → not w ≡ opens q h e
  opens-met w whole t =
      let mm : meets q h e ≡ true = ap (λ (k : ℕ). meets q k e) (sym (level h low)) ∙ sym met ∙ t in
      let ww : w ≡ fits q h e = whole ∙ ap (λ (k : ℕ). fits q k e) (level h low) in
      ap not ww ∙ sym (ap (λ (x : Bool). x && not (fits q h e)) mm)

  pub opens_not : m ≡ false → false ≡ opens q h e
  opens_not t = sym (ap (λ (x : Bool). x && not (fits q h e)) (ap (λ (k : ℕ). meets q k e) (sym (level h low)) ∙ sym met ∙ t))

-- ---- one entry

pub some_same : (n : ℕ) (f g : ℕ → Bool) → ((j : ℕ) → j < n → f j ≡ g j) → some n f ≡ some n g
unfolding some
some_same zero f g e = refl
some_same (suc n) f g e = ap (λ (x : Bool). x || f n) (some_same n f g (λ j l. e j (omega arith))) ∙ ap (λ (x : Bool). some n g || x) (e n (omega arith))

pub some-here : (n j : ℕ) (f : ℕ → Bool) → j < n → f j ≡ true → some n f ≡ true
unfolding some
some-here zero j f l e = absurd (let z : ⊥ = omega arith in z)
some-here (suc n) j f l e = elim (T-or-not (ltb j n)) [
  | inl t ↦ ap (λ (x : Bool). x || f n) (some-here n j f (ltb→lt j n t) e)
  | inr t ↦ let g = nltb→le j n t in let z : n ≡ j = omega arith in rw (z, e) (or-true (some j f))
]

module _ (q : Mapping) (b : ℕ) (A : List ℕ) where
  pub at-page : (h e d : ℕ) → h ≡ 0 → false ≡ blocked_at q b A h e d
  unfolding blocked
  at-page h e d z = rw z

  pub at-shut : (h e d : ℕ) → h ≢ 0 → opens q h e ≡ false → false ≡ blocked_at q b A h e d
  unfolding blocked leads_to
  at-shut zero e d n o = absurd (n refl)
  at-shut (suc h) e d n o = if (is_table_lem d) (λ (E : Entry). false ≡ blocked q (suc h) e E) (λ _. rw o) (λ _. rw o)

  pub at_other : (h e d : ℕ) → h ≢ 0 → opens q h e ≡ true → is_table_lem d ≡ false → is_block_lem h d ≡ blocked_at q b A h e d
  unfolding blocked leads_to
  at_other zero e d n o t = absurd (n refl)
  at_other (suc h) e d n o t = rw (t, o)

  pub at_table : (h e d p : ℕ) → h ≢ 0 → opens q h e ≡ true → is_table_lem d ≡ true → p ≡ page_of d
      → blocked_in q b A (h - 1) e (512 * p) 512 ≡ blocked_at q b A h e d
  unfolding blocked leads_to
  at_table zero e d p n o t g = absurd (n refl)
  at_table (suc h) e d p n o t g =
      ap (λ (i : ℕ). blocked_in q b A i e (512 * p) 512) (let z : suc h - 1 ≡ h = omega arith in z)
      ∙ rw (t, o, g) (some_same 512 (λ j. blocked_at q b A h (e + j * span h) (shows b A (512 * page_of d + j)))
      (λ j. blocked_at q b A h (e + j * span h) (shows b A (512 * page_of d + j % 512)))
      (λ j l. ap (λ (i : ℕ). blocked_at q b A h (e + j * span h) (shows b A (512 * page_of d + i))) (sym (mod-eq_of_lt l))))

  -- ---- one entry after another

  module _ (h e w : ℕ) where
    pub none_yet : false ≡ blocked_in q b A h e w 0
    unfolding some
    none_yet = refl

    pub one_more : (j s d : ℕ) (r : Bool) → s ≡ span h → d ≡ shows b A (w + j) → false ≡ blocked_in q b A h e w j
        → r ≡ blocked_at q b A h (e + j * s) d → r ≡ false → false ≡ blocked_in q b A h e w (j + 1)
    unfolding some
    one_more j s d r se de none re is = sym is ∙ re ∙ rw (se, de, add-one, ← none)

    pub one_blocks : (j n s d : ℕ) (r : Bool) → s ≡ span h → d ≡ shows b A (w + j) → j < n
        → r ≡ blocked_at q b A h (e + j * s) d → r ≡ true → true ≡ blocked_in q b A h e w n
    one_blocks j n s d r se de l re is =
        sym (some-here n j (λ i. blocked_at q b A h (e + i * span h) (shows b A (w + i))) l (rw (se, de) at (sym re ∙ is)))
