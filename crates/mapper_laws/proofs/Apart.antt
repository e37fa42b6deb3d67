-- Tables that lie apart: what a store elsewhere leaves as it is. Assumes nothing.
use mathlib.Core.Path.{◌≡◌, refl, sym, ◌∙◌, ap, subst, fun_ext}
use mathlib.Core.Logic.{◌⊎◌, inl, inr, ◌≢◌}
use mathlib.Core.Bool.{Bool, true, false, cond}
use Prim.Native.Nat.{ℕ, zero, suc, ◌+◌, ◌*◌, ◌/◌, ◌%◌, ◌<◌}
use native.Mathlib.Nat.{mod-lt, mod-mod, mul_comm}
use lib.Arith.{digits_div}
use lib.Dec.{lit<}
use Rattle.mapper_rules.specs.Walk.{is_table_lem}
use Rattle.mapper_laws.specs.Tree.{Entry, Ends, Leads, table, leads_to}

pub in-page : (p j : ℕ) → j < 512 → (512 * p + j) / 512 ≡ p
in-page p j h = ap (λ (y : ℕ). (y + j) / 512) (mul_comm 512 p) ∙ digits_div p h

module _ (page_of : ℕ → ℕ) where
  -- p is the page of a table that E leads to
  unfoldable pub Has : ℕ → Entry → ℕ → Type 0
  Has zero E p = ⊥
  Has (suc h) (Ends d) p = ⊥
  Has (suc h) (Leads d f) p = (p ≡ page_of d) ⊎ ((j : ℕ) × (j < 512) × Has h (f j) p)

  pub ends-none : (h d p : ℕ) → Has h (Ends d) p → ⊥
  unfolding Has
  ends-none zero d p g = g
  ends-none (suc h) d p g = g

  -- no table is reached twice
  unfoldable pub Apart : ℕ → Entry → Type 0
  Apart zero E = Unit {0}
  Apart (suc h) (Ends d) = Unit {0}
  Apart (suc h) (Leads d f) =
      ((j : ℕ) → j < 512 → Apart h (f j) × (Has h (f j) (page_of d) → ⊥))
      × ((i j : ℕ) → i < 512 → j < 512 → i ≢ j → (p : ℕ) → Has h (f i) p → Has h (f j) p → ⊥)

  pub apart-ends : (h d : ℕ) → Apart h (Ends d)
  unfolding Apart
  apart-ends zero d = tt
  apart-ends (suc h) d = tt

  -- words that no table of the tree has may change
  pub same-tree : (u v : ℕ → ℕ) (h d : ℕ) → ((w : ℕ) → Has h (leads_to page_of u h d) (w / 512) → u w ≡ v w) → leads_to page_of u h d ≡ leads_to page_of v h d
  unfolding leads_to Has
  same-tree u v zero d same = refl
  same-tree u v (suc h) d same = go (is_table_lem d) same (λ i k. same-tree u v h (u (512 * page_of d + i)) k)
    where
      go : (c : Bool) → ((w : ℕ) → Has (suc h) (cond c (Leads d (table (λ j. leads_to page_of u h (u (512 * page_of d + j))))) (Ends d)) (w / 512) → u w ≡ v w)
          → ((i : ℕ) → ((w : ℕ) → Has h (leads_to page_of u h (u (512 * page_of d + i))) (w / 512) → u w ≡ v w)
          → leads_to page_of u h (u (512 * page_of d + i)) ≡ leads_to page_of v h (u (512 * page_of d + i)))
          → cond c (Leads d (table (λ j. leads_to page_of u h (u (512 * page_of d + j))))) (Ends d) ≡ cond c (Leads d (table (λ j. leads_to page_of v h (v (512 * page_of d + j))))) (Ends d)
      go false same below = refl
      go true same below = ap (Leads d) (fun_ext (λ j.
          below (j % 512) (λ w g. same w (inr (j % 512, mod-lt j (lit< tt), subst (λ (i : ℕ). Has h (leads_to page_of u h (u (512 * page_of d + i))) (w / 512)) (sym (mod-mod j 512)) g)))
          ∙ ap (leads_to page_of v h) (same (512 * page_of d + j % 512) (inl (in-page (page_of d) (j % 512) (mod-lt j (lit< tt)))))))
