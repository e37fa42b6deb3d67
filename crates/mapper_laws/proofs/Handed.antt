-- The tables of a mapped entry are those that it had, and pages handed out for it. Assumes nothing.
use mathlib.Core.Path.{◌≡◌, sym, subst}
use mathlib.Core.Logic.{◌⊎◌, inl, inr}
use mathlib.Core.Bool.{Bool, true, false, cond}
use Prim.Native.Nat.{ℕ, zero, suc, ◌+◌, ◌*◌, ◌≤◌, ◌<◌}
use native.Mathlib.Omega.{arith}
use native.Mathlib.Nat.{mod-eq_of_lt}
use lib.Dec.{eqb, eqb→eq}
use Rattle.mapper_rules.specs.Walk.{span}
use Rattle.rules_laws.proofs.Lists.{T-or-not, neq}
use Rattle.mapper_laws.specs.declared.Mapping.{Mapping}
use Rattle.mapper_laws.specs.Tree.{Entry, Ends, Leads, table, sum}
use Rattle.mapper_laws.specs.Mapping.{meets, opens, leaf_word_lem, table_word_lem, wants, mapped}
use Rattle.mapper_laws.proofs.Apart.{Has, ends-none}

-- a part of a sum is at most the whole
pub sum-part : (n : ℕ) (f : ℕ → ℕ) (j : ℕ) → j < n → sum j f + f j ≤ sum n f
unfolding sum
sum-part zero f j h = absurd (omega arith)
sum-part (suc n) f j h = elim (T-or-not (eqb j n)) [
  | inl e ↦ subst (λ (i : ℕ). sum i f + f i ≤ sum n f + f n) (sym (eqb→eq j n e)) (omega arith)
  | inr e ↦ let d = neq j n e in let i = sum-part n f j (omega arith) in omega arith
]

module _ (q : Mapping) (page page_of : ℕ → ℕ) where
  -- the page of the k-th table that is handed out
  abbrev pub slot : ℕ → ℕ
  slot k = page_of (table_word_lem (page k))

  abbrev pub Between : ℕ → ℕ → ℕ → Type 0
  Between n m p = (k : ℕ) × (n ≤ k) × (k < m) × (p ≡ slot k)

  wider : {n m n' m' p : ℕ} → n' ≤ n → m ≤ m' → Between n m p → Between n' m' p
  wider a b (k, l, r, e) = (k, omega arith, omega arith, e)

  module _ (h e : ℕ) (ih : (e n : ℕ) (E : Entry) (p : ℕ) → Has page_of h (mapped q page h e n E) p → Has page_of h E p ⊎ Between n (n + wants q h e E) p) where
    -- of the entries of one table
    below : (f : ℕ → Entry) (n p : ℕ) → ((j : ℕ) × (j < 512) × Has page_of h (table (λ j. mapped q page h (e + j * span h) (n + sum j (λ i. wants q h (e + i * span h) (f i))) (f j)) j) p)
        → ((j : ℕ) × (j < 512) × Has page_of h (f j) p) ⊎ Between n (n + sum 512 (λ i. wants q h (e + i * span h) (f i))) p
    below f n p (j, few, g) =
        let g' = subst (λ (i : ℕ). Has page_of h (mapped q page h (e + i * span h) (n + sum i (λ i. wants q h (e + i * span h) (f i))) (f i)) p) (mod-eq_of_lt few) g in
        let s = sum-part 512 (λ i. wants q h (e + i * span h) (f i)) j few in
        elim (ih (e + j * span h) (n + sum j (λ i. wants q h (e + i * span h) (f i))) (f j) p g') [
          | inl o ↦ inl (j, few, o)
          | inr b ↦ inr (wider (omega arith) (omega arith) b)
        ]

  pub has-mapped : (h e n : ℕ) (E : Entry) (p : ℕ) → Has page_of h (mapped q page h e n E) p → Has page_of h E p ⊎ Between n (n + wants q h e E) p
  unfolding mapped wants Has
  has-mapped zero e n E p g = absurd g
  has-mapped (suc h) e n (Ends d) p g = go (opens q (suc h) e) (meets q (suc h) e) (below h e (has-mapped h) (λ _. Ends 0) (suc n) p) g
    where
      all : ℕ
      all = sum 512 (λ j. wants q h (e + j * span h) (Ends 0))

      new : ℕ → Entry
      new = table (λ j. mapped q page h (e + j * span h) (suc n + sum j (λ i. wants q h (e + i * span h) (Ends 0))) (Ends 0))

      go : (c m : Bool) → (((j : ℕ) × (j < 512) × Has page_of h (new j) p) → ((j : ℕ) × (j < 512) × Has page_of h (Ends 0) p) ⊎ Between (suc n) (suc n + all) p)
          → Has page_of (suc h) (cond c (Leads (table_word_lem (page n)) new) (cond m (Ends (leaf_word_lem q (suc h) e)) (Ends d))) p → ⊥ ⊎ Between n (n + cond c (suc all) 0) p
      go true m b (inl e) = inr (n, omega arith, omega arith, e)
      go true m b (inr g) = elim (b g) [ inl o ↦ absurd (ends-none page_of h 0 p o.2) | inr k ↦ inr (wider (omega arith) (omega arith) k) ]
      go false true b g = absurd g
      go false false b g = absurd g
  has-mapped (suc h) e n (Leads d f) p g = go (opens q (suc h) e) (meets q (suc h) e) (below h e (has-mapped h) f n p) g
    where
      all : ℕ
      all = sum 512 (λ j. wants q h (e + j * span h) (f j))

      new : ℕ → Entry
      new = table (λ j. mapped q page h (e + j * span h) (n + sum j (λ i. wants q h (e + i * span h) (f i))) (f j))

      Old : Type 0
      Old = (p ≡ page_of d) ⊎ ((j : ℕ) × (j < 512) × Has page_of h (f j) p)

      go : (c m : Bool) → (((j : ℕ) × (j < 512) × Has page_of h (new j) p) → ((j : ℕ) × (j < 512) × Has page_of h (f j) p) ⊎ Between n (n + all) p)
          → Has page_of (suc h) (cond c (Leads d new) (cond m (Ends (leaf_word_lem q (suc h) e)) (Leads d f))) p → Old ⊎ Between n (n + cond c all 0) p
      go true m b (inl e) = inl (inl e)
      go true m b (inr g) = elim (b g) [ inl o ↦ inl (inr o) | inr k ↦ inr k ]
      go false true b g = absurd g
      go false false b g = inl g
