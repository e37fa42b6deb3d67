-- Pages that are handed out one after another: whole, free at first, and no two the same. Assumes nothing.
use mathlib.Core.Path.{◌≡◌, refl, sym, ◌∙◌, ap, subst}
use mathlib.Core.Logic.{◌≢◌, inl, inr}
use mathlib.Core.Bool.{Bool, true, false, not, cond}
use mathlib.Core.List.{List}
use Prim.Native.Nat.{ℕ, zero, suc, ◌+◌, ◌-◌, ◌/◌, ◌%◌, ◌≤◌, ◌<◌}
use native.Mathlib.Omega.{arith}
use native.Mathlib.Nat.{div-add-mod'}
use lib.Dec.{T, ltb, eqb, ltb→lt, nltb→le, eqb→eq}
use lib.IntN.{ℤ, pos, negsuc}
use lib.Signed.{lt_z}
use borrow.Author.Tests.{ltb-true}
use Rattle.rules.specs.Rules.{Book, free_at, step}
use Rattle.rules_laws.proofs.Lists.{T_true, T-or-not, neq}
use Rattle.pool_state.specs.Shown.{pool}
use Rattle.calls.specs.Calls.{number_from}
use Rattle.pages.specs.Calls.{AllocatePages, byte_call}
use Rattle.image_parts.specs.Layout.{current}
use Rattle.c_over.proofs.Refusals.{refusal-unchanged}
use Rattle.mapper_pages.specs.Pages.{page_from, Supply, supply, asked, taken}
use Rattle.mapper_supply.specs.Supply.{image_after, page_at}
use Rattle.mapper_supply.proofs.Taking.{one, book_after, less-after, page-whole, page-free, page-gone}
use Rattle.mapper_supply.proofs.Reading.{Reads, page-accepted, page-address, read_next}

-- ---- what it means that all were to be had

unasked : (s : Supply) → T (asked s).enough → T s.enough
unfolding asked
unasked s = go s.enough refl
  where
    go : (c : Bool) → s.enough ≡ c → T (cond s.enough (supply (not (lt_z (page_from s.bytes).number (pos 0))) (page_from s.bytes).bytes) s).enough → T s.enough
    go true e t = rw e tt
    go false e t = absurd (rw e at t)

asked-had : (l : List ℕ) → T (asked (supply true l)).enough → lt_z (page_from l).number (pos 0) ≡ false
unfolding asked
asked-had l = go (lt_z (page_from l).number (pos 0))
  where
    go : (c : Bool) → T (not c) → c ≡ false
    go true t = absurd t
    go false t = refl

asked-all : (l : List ℕ) → T (asked (supply true l)).enough → asked (supply true l) ≡ supply true (page_from l).bytes
unfolding asked
asked-all l t = ap (λ (c : Bool). supply c (page_from l).bytes) (T_true (not (lt_z (page_from l).number (pos 0))) t)

-- the image that is left is the one after all of them
pub all-taken : (n : ℕ) (l : List ℕ) → T (taken n (supply true l)).enough → taken n (supply true l) ≡ supply true (image_after n l)
unfolding taken image_after
all-taken zero l t = refl
all-taken (suc n) l t =
    let e = all-taken n l (unasked (taken n (supply true l)) t) in
    ap asked e ∙ asked-all (image_after n l) (subst (λ (s : Supply). T (asked s).enough) e t)

-- each of them was to be had
pub each-had : (n : ℕ) (l : List ℕ) → T (taken n (supply true l)).enough → (k : ℕ) → k < n → lt_z (page_from (image_after k l)).number (pos 0) ≡ false
unfolding taken
each-had zero l t k h = absurd (let z : ⊥ = omega arith in z)
each-had (suc n) l t k h =
    let before = unasked (taken n (supply true l)) t in
    elim (T-or-not (eqb k n)) [
      | inl e ↦ rw (eqb→eq k n e) (asked-had (image_after n l) (subst (λ (s : Supply). T (asked s).enough) (all-taken n l before) t))
      | inr e ↦ let d = neq k n e in each-had n l before k (omega arith)
    ]

-- where one was not to be had, the door refuses once more
pub below-zero : (i : ℤ) → lt_z i (pos 0) ≡ true → number_from i ≢ 0
below-zero (pos a) e g = let h = ltb-true a 0 e in let z : ⊥ = omega arith in z
below-zero (negsuc k) e g = let z : ⊥ = omega arith in z

pub refused-same : (l : List ℕ) → lt_z (page_from l).number (pos 0) ≡ true → (page_from l).bytes ≡ l
refused-same l e = refusal-unchanged current l (byte_call (AllocatePages 1 12)) (below-zero (page_from l).number e)

abbrev Refuses : Supply → Type 0
Refuses s = T (not s.enough) → lt_z (page_from s.bytes).number (pos 0) ≡ true

refuses-asked : (c : Bool) (l : List ℕ) → Refuses (supply c l) → Refuses (asked (supply c l))
unfolding asked
refuses-asked false l h t = h t
refuses-asked true l h t = let e = no-not (lt_z (page_from l).number (pos 0)) t in ap (λ (m : List ℕ). lt_z (page_from m).number (pos 0)) (refused-same l e) ∙ e
  where
    no-not : (c : Bool) → T (not (not c)) → c ≡ true
    no-not true t = refl
    no-not false t = absurd t

pub still-refused : (n : ℕ) (l : List ℕ) → T (not (taken n (supply true l)).enough) → lt_z (page_from (taken n (supply true l)).bytes).number (pos 0) ≡ true
unfolding taken
still-refused zero l t = absurd t
still-refused (suc n) l t = refuses-asked (taken n (supply true l)).enough (taken n (supply true l)).bytes (still-refused n l) t

-- ---- the pages

module _ (b : Book) (l : List ℕ) (r : Reads b l) (n : ℕ) (had : (k : ℕ) → k < n → lt_z (page_from (image_after k l)).number (pos 0) ≡ false) where
  pub read-after : (k : ℕ) → k ≤ n → Reads (book_after pool k b) (image_after k l)
  unfolding book_after image_after
  read-after zero h = r
  read-after (suc k) h = read_next (book_after pool k b) (image_after k l) (read-after k (omega arith)) (had k (omega arith))

  module _ (k : ℕ) (few : k < n) where
    reads : Reads (book_after pool k b) (image_after k l)
    reads = read-after k (omega arith)

    address : page_at l k ≡ (step pool one (book_after pool k b)).address
    address = page-address (book_after pool k b) (image_after k l) reads (had k few)

    pub whole-page : page_at l k % 4096 ≡ 0
    whole-page = rw address (page-whole pool (book_after pool k b) reads.sound)

    free-then : (i : ℕ) → i < 4096 → T (free_at (book_after pool k b) (page_at l k + i))
    free-then i h = rw address (page-free pool (book_after pool k b) reads.sound (page-accepted (book_after pool k b) (image_after k l) reads (had k few)) i h)

    gone-then : (i : ℕ) → i < 4096 → T (free_at (book_after pool (suc k) b) (page_at l k + i)) → ⊥
    unfolding book_after
    gone-then i h t =
        page-gone pool (book_after pool k b) reads.sound (page-accepted (book_after pool k b) (image_after k l) reads (had k few)) i h
        (subst (λ (x : ℕ). T (free_at (step pool one (book_after pool k b)).book (x + i))) address t)

    pub free-before : (i : ℕ) → i < 4096 → T (free_at b (page_at l k + i))
    unfolding book_after
    free-before i h = less-after pool b r.sound 0 k (page_at l k + i) (subst (λ (m : ℕ). T (free_at (book_after pool m b) (page_at l k + i))) (let e : k ≡ k + 0 = omega arith in e) (free-then i h))

    -- nor is it free any more when all are taken
    pub gone-after : (i : ℕ) → i < 4096 → T (free_at (book_after pool n b) (page_at l k + i)) → ⊥
    gone-after i h t =
        gone-then i h (less-after pool b r.sound (suc k) (n - suc k) (page_at l k + i)
        (subst (λ (m : ℕ). T (free_at (book_after pool m b) (page_at l k + i))) (let e : n ≡ n - suc k + suc k = omega arith in e) t))

  -- a page that was handed out is not free any more when the next ones are
  pub later-page : (j k : ℕ) → j < k → k < n → page_at l j ≢ page_at l k
  later-page j k h few e =
      gone-then j (omega arith) 0 (omega arith)
      (less-after pool b r.sound (suc j) (k - suc j) (page_at l j + 0)
      (subst (λ (x : ℕ). T (free_at (book_after pool (k - suc j + suc j) b) (x + 0))) (sym e)
      (subst (λ (m : ℕ). T (free_at (book_after pool m b) (page_at l k + 0))) (let g : k ≡ k - suc j + suc j = omega arith in g) (free-then k few 0 (omega arith)))))

  pub other-page : (j k : ℕ) → j < n → k < n → page_at l j / 4096 ≡ page_at l k / 4096 → j ≡ k
  other-page j k hj hk e =
      let same : page_at l j ≡ page_at l k = let a = whole-page j hj in let c = whole-page k hk in let x = div-add-mod' (page_at l j) 4096 in let y = div-add-mod' (page_at l k) 4096 in omega arith in
      elim (T-or-not (ltb j k)) [
        | inl t ↦ absurd (later-page j k (ltb→lt j k t) hk same)
        | inr t ↦ elim (T-or-not (ltb k j)) [
          | inl u ↦ absurd (later-page k j (ltb→lt k j u) hj (sym same))
          | inr u ↦ let g = nltb→le j k t in let f = nltb→le k j u in omega arith
        ]
      ]
