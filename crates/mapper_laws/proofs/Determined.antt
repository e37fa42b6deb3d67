-- What words lead to determines them: two arenas that lead to the same have the same words in every table. Assumes nothing.
use mathlib.Core.Path.{◌≡◌, refl, sym, ◌∙◌, ap, subst}
use mathlib.Core.Logic.{inl, inr}
use mathlib.Core.Bool.{Bool, true, false, cond}
use Prim.Native.Nat.{ℕ, zero, suc, ◌+◌, ◌*◌, ◌/◌, ◌%◌}
use native.Mathlib.Nat.{div-add-mod, mod-mod}
use Rattle.mapper_rules.specs.Walk.{is_table_lem}
use Rattle.mapper_laws.specs.Tree.{Entry, Ends, Leads, table, leads_to}
use Rattle.mapper_laws.proofs.Apart.{Has}

abbrev pub raw_of : Entry → ℕ
raw_of (Ends d) = d
raw_of (Leads d f) = d

abbrev below : Entry → ℕ → Entry
below (Ends d) j = Ends d
below (Leads d f) j = f j

module _ (page_of : ℕ → ℕ) where
  pub raw-leads : (word : ℕ → ℕ) (h d : ℕ) → raw_of (leads_to page_of word h d) ≡ d
  unfolding leads_to
  raw-leads word zero d = refl
  raw-leads word (suc h) d = go (is_table_lem d)
    where
      go : (c : Bool) → raw_of (cond c (Leads d (table (λ j. leads_to page_of word h (word (512 * page_of d + j))))) (Ends d)) ≡ d
      go true = refl
      go false = refl

  pub determined : (u v : ℕ → ℕ) (h d d' : ℕ) → leads_to page_of u h d ≡ leads_to page_of v h d' → (w : ℕ) → Has page_of h (leads_to page_of u h d) (w / 512) → u w ≡ v w
  unfolding leads_to Has
  determined u v zero d d' e w g = absurd g
  determined u v (suc h) d d' e w g =
      let same : d ≡ d' = sym (raw-leads u (suc h) d) ∙ ap raw_of e ∙ raw-leads v (suc h) d' in
      go (is_table_lem d) (e ∙ ap (leads_to page_of v (suc h)) (sym same)) g (λ i f y. determined u v h (u (512 * page_of d + i)) (v (512 * page_of d + i)) f w y)
    where
      go : (c : Bool) → cond c (Leads d (table (λ j. leads_to page_of u h (u (512 * page_of d + j))))) (Ends d) ≡ cond c (Leads d (table (λ j. leads_to page_of v h (v (512 * page_of d + j))))) (Ends d)
          → Has page_of (suc h) (cond c (Leads d (table (λ j. leads_to page_of u h (u (512 * page_of d + j))))) (Ends d)) (w / 512)
          → ((i : ℕ) → leads_to page_of u h (u (512 * page_of d + i)) ≡ leads_to page_of v h (v (512 * page_of d + i)) → Has page_of h (leads_to page_of u h (u (512 * page_of d + i))) (w / 512) → u w ≡ v w)
          → u w ≡ v w
      go false q g ih = absurd g
      go true q (inl g) ih =
          let j = w % 512 in
          let k : j % 512 ≡ j = mod-mod w 512 in
          let at : 512 * page_of d + j ≡ w = ap (λ (y : ℕ). 512 * y + j) (sym g) ∙ div-add-mod w 512 in
          let r : leads_to page_of u h (u (512 * page_of d + j % 512)) ≡ leads_to page_of v h (v (512 * page_of d + j % 512)) = ap (λ (E : Entry). below E j) q in
          let x : u (512 * page_of d + j % 512) ≡ v (512 * page_of d + j % 512) = sym (raw-leads u h (u (512 * page_of d + j % 512))) ∙ ap raw_of r ∙ raw-leads v h (v (512 * page_of d + j % 512)) in
          subst (λ (y : ℕ). u y ≡ v y) (ap (λ (y : ℕ). 512 * page_of d + y) k ∙ at) x
      go true q (inr (j, lt, g)) ih = ih (j % 512) (ap (λ (E : Entry). below E j) q) g
