-- The stores of a mapping, on each way through. Assumes nothing.
use mathlib.Core.Path.{◌≡◌, refl, sym, ◌∙◌, ap}
use mathlib.Core.Logic.{◌≢◌}
use mathlib.Core.Bool.{Bool, true, false, not, ◌&&◌}
use mathlib.Core.List.{List}
use Prim.Native.Nat.{ℕ, zero, suc, ◌+◌, ◌-◌, ◌*◌, ◌%◌, ◌^◌, ◌≤◌}
use native.Mathlib.Omega.{arith}
use native.Mathlib.Numerals.{add-one}
use lib.IntN.{ℤ}
use Rattle.calls.specs.Calls.{address_from}
use Rattle.c_over.specs.CCalls.{Returned, returned}
use Rattle.mapper_rules.specs.Walk.{span, is_table_lem}
use Rattle.mapper_laws.specs.declared.Mapping.{Mapping}
use Rattle.mapper_laws.specs.Tree.{page_of}
use Rattle.mapper_laws.specs.Mapping.{meets, fits, opens, leaf_word_lem, table_word_lem}
use Rattle.mapper_laws.specs.Arena.{shows, stored, cleared}
use Rattle.mapper_words.specs.Heights.{capped}
use Rattle.mapper_blocks.proofs.Strides.{level}
use Rattle.mapper_pages.specs.Pages.{page_from}
use Rattle.mapper_stores.specs.Stores.{Held, held, next_word_lem, made_table_lem, steps, store, store_in_lem}

-- ---- a fresh table; j is the answer i as the machine has it

module _ (A l l' : List ℕ) (i j : ℤ) (a d : ℕ) (door : returned i l' ≡ page_from l) (same : j ≡ i) (at : a ≡ address_from j) (made : d ≡ table_word_lem a % 2 ^ 64) where
  pub next_word : d ≡ next_word_lem (held A l)
  unfolding next_word_lem
  next_word = made ∙ ap (λ (x : ℕ). table_word_lem x % 2 ^ 64) (at ∙ ap address_from same ∙ ap (λ (r : Returned). address_from r.number) door)

  pub made_table : (b w : ℕ) (B C : List ℕ) → B ≡ cleared 512 b A (512 * page_of d) → C ≡ stored b B w d → held C l' ≡ made_table_lem b w (held A l)
  unfolding made_table_lem
  made_table b w B C eb ec =
      ap (λ (X : List ℕ). held X l') (ec ∙ ap (λ (X : List ℕ). stored b X w d) eb)
      ∙ ap (λ (x : ℕ). held (stored b (cleared 512 b A (512 * page_of x)) w x) l') next_word
      ∙ ap (λ (r : Returned). held (stored b (cleared 512 b A (512 * page_of (next_word_lem (held A l)))) w (next_word_lem (held A l))) r.bytes) door

-- ---- one entry

module _ (q : Mapping) (b : ℕ) where
  module _ (h e w : ℕ) (s : Held) (low : h ≤ 3) where
    module _ (met : meets q (capped h) e ≡ true) where
      meets-it : meets q h e ≡ true
      meets-it = ap (λ (k : ℕ). meets q k e) (sym (level h low)) ∙ met

      opens-it : fits q (capped h) e ≡ false → opens q h e ≡ true
      opens-it f = ap (λ (x : Bool). x && not (fits q h e)) meets-it ∙ ap not (ap (λ (k : ℕ). fits q k e) (sym (level h low)) ∙ f)

      shut-it : fits q (capped h) e ≡ true → opens q h e ≡ false
      shut-it f = ap (λ (x : Bool). x && not (fits q h e)) meets-it ∙ ap not (ap (λ (k : ℕ). fits q k e) (sym (level h low)) ∙ f)

    none-met : meets q (capped h) e ≡ false → meets q h e ≡ false
    none-met n = ap (λ (k : ℕ). meets q k e) (sym (level h low)) ∙ n

    none_open : meets q (capped h) e ≡ false → opens q h e ≡ false
    none_open n = ap (λ (x : Bool). x && not (fits q h e)) (none-met n)

  leaf-put : (h e w v : ℕ) (s : Held) (B : List ℕ) → v ≡ leaf_word_lem q h e % 2 ^ 64 → B ≡ stored b s.arena w v → held B s.bytes ≡ held (stored b s.arena w (leaf_word_lem q h e % 2 ^ 64)) s.bytes
  leaf-put h e w v s B ve be = ap (λ (X : List ℕ). held X s.bytes) (be ∙ ap (stored b s.arena w) ve)

  pub at-page : (h e w v : ℕ) (s : Held) (B : List ℕ) → h ≤ 3 → meets q (capped h) e ≡ true → h ≡ 0 → v ≡ leaf_word_lem q h e % 2 ^ 64 → B ≡ stored b s.arena w v
      → held B s.bytes ≡ store q b h e w s
  unfolding store
  at-page zero e w v s B low met z ve be = leaf-put 0 e w v s B ve be ∙ rw (meets-it zero e w s low met)
  at-page (suc h) e w v s B low met z ve be = absurd (let n : ⊥ = omega arith in n)

  pub at-whole : (h e w v : ℕ) (s : Held) (B : List ℕ) → h ≤ 3 → meets q (capped h) e ≡ true → h ≢ 0 → fits q (capped h) e ≡ true → v ≡ leaf_word_lem q h e % 2 ^ 64
      → B ≡ stored b s.arena w v → held B s.bytes ≡ store q b h e w s
  unfolding store
  at-whole zero e w v s B low met n f ve be = absurd (n refl)
  at-whole (suc h) e w v s B low met n f ve be = leaf-put (suc h) e w v s B ve be ∙ rw (shut-it (suc h) e w s low met f, meets-it (suc h) e w s low met)

  pub at_none : (h e w : ℕ) (s : Held) → h ≤ 3 → meets q (capped h) e ≡ false → s ≡ store q b h e w s
  unfolding store
  at_none zero e w s low n = rw (none-met zero e w s low n)
  at_none (suc h) e w s low n = rw (none_open (suc h) e w s low n, none-met (suc h) e w s low n)

  pub at_table : (h e w d p : ℕ) (s r : Held) → h ≤ 3 → meets q (capped h) e ≡ true → h ≢ 0 → fits q (capped h) e ≡ false → d ≡ shows b s.arena w → is_table_lem d ≡ true → p ≡ page_of d
      → r ≡ store_in_lem q b (h - 1) e (512 * p) 512 s → r ≡ store q b h e w s
  unfolding store
  at_table zero e w d p s r low met n f de t pe k = absurd (n refl)
  at_table (suc h) e w d p s r low met n f de t pe k =
      k ∙ ap (λ (i : ℕ). store_in_lem q b i e (512 * p) 512 s) (let z : suc h - 1 ≡ h = omega arith in z)
      ∙ ap (λ (i : ℕ). store_in_lem q b h e (512 * i) 512 s) (pe ∙ ap page_of de)
      ∙ rw (opens-it (suc h) e w s low met f, ap is_table_lem (sym de) ∙ t)

  pub at-fresh : (h e w d v p : ℕ) (s a r : Held) → h ≤ 3 → meets q (capped h) e ≡ true → h ≢ 0 → fits q (capped h) e ≡ false → d ≡ shows b s.arena w → is_table_lem d ≡ false
      → v ≡ next_word_lem s → p ≡ page_of v → a ≡ made_table_lem b w s → r ≡ store_in_lem q b (h - 1) e (512 * p) 512 a → r ≡ store q b h e w s
  unfolding store
  at-fresh zero e w d v p s a r low met n f de t ve pe ae k = absurd (n refl)
  at-fresh (suc h) e w d v p s a r low met n f de t ve pe ae k =
      k ∙ ap (λ (i : ℕ). store_in_lem q b i e (512 * p) 512 a) (let z : suc h - 1 ≡ h = omega arith in z)
      ∙ ap (λ (i : ℕ). store_in_lem q b h e (512 * i) 512 a) (pe ∙ ap page_of ve)
      ∙ ap (store_in_lem q b h e (512 * page_of (next_word_lem s)) 512) ae
      ∙ rw (opens-it (suc h) e w s low met f, ap is_table_lem (sym de) ∙ t)

  -- ---- one entry after another

  module _ (h e w : ℕ) (s : Held) where
    pub none_yet : s ≡ store_in_lem q b h e w 0 s
    unfolding steps
    none_yet = refl

    pub one_more : (j t : ℕ) (a r : Held) → t ≡ span h → a ≡ store_in_lem q b h e w j s → r ≡ store q b h (e + j * t) (w + j) a → r ≡ store_in_lem q b h e w (j + 1) s
    unfolding steps
    one_more j t a r te ae re = re ∙ rw (te, ae, add-one)

    pub all-stored : (j n : ℕ) (r : Held) → r ≡ store_in_lem q b h e w j s → j ≡ n → r ≡ store_in_lem q b h e w n s
    all-stored j n r k g = k ∙ ap (λ (i : ℕ). store_in_lem q b h e w i s) g
