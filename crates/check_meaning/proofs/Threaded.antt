-- Lists whose links are right are threaded through their arrays, and back; numbers and ranges of one list.
use Prim.Native.Nat.{ℕ, ◌<◌, ◌≤◌}
use mathlib.Core.Bool.{Bool, true, false}
use mathlib.Core.Logic.{inl, inr, ⊎_elim, ◌≢◌}
use mathlib.Core.List.{List, [], ◌∷◌, map}
use mathlib.Core.Path.{◌≡◌, refl, sym, ap, ◌∙◌, subst}
use borrow.Author.Tests.{ne_eqb}
use lib.ListN.{length, get_or}
use Rattle.linked_lists.specs.Links.{none, after, before, has, Linked}
use Rattle.linked_lists.specs.Threads.{Threads}
use Rattle.linked_lists.proofs.Laws.{same?, true≢false, not-has, before-none, after_none, has-cons}
use Rattle.linked_lists.proofs.Check.{linked-listed, linked-after, linked-before, list-linked}
use Rattle.linked_lists.proofs.Threading.{has-below}
use Rattle.rules.specs.Rules.{Range}
use Rattle.rules.specs.Sound.{In, Pairwise}
use Rattle.pool_state.specs.Shown.{numbers, at, Stand}
use Rattle.pool_state.proofs.Walks.{has_in}
use Rattle.check_meaning.specs.Paragraph.{InOrder}
use Rattle.check_meaning.proofs.Orders.{has_first}

module _ (n : ℕ) (small : n ≤ none) (key : ℕ → ℕ) (lists : ℕ → List ℕ) (prev next : List ℕ) where
  abbrev N : ℕ → ℕ
  N i = get_or next i 0

  abbrev P : ℕ → ℕ
  P i = get_or prev i 0

  pub linked-threads : length prev ≡ n → length next ≡ n → ((k : ℕ) → Linked n N P none (lists k)) → ((k i : ℕ) → has i (lists k) ≡ true → key i ≡ k)
      → ((i : ℕ) → i < n → has i (lists (key i)) ≡ false → (P i ≡ none) × (N i ≡ none)) → Threads n key lists prev next
  linked-threads lp ln linked keyed off = record {
    prev-length = lp;
    next-length = ln;
    listed = λ k. linked-listed n small N P (lists k) (linked k);
    keyed = keyed;
    prevs = λ i b. (shows i b).0;
    nexts = λ i b. (shows i b).1;
  }
    where
      shows : (i : ℕ) → i < n → (P i ≡ before (lists (key i)) i) × (N i ≡ after (lists (key i)) i)
      shows i b = go (has i (lists (key i))) refl
        where
          go : (t : Bool) → has i (lists (key i)) ≡ t → (P i ≡ before (lists (key i)) i) × (N i ≡ after (lists (key i)) i)
          go true h = (linked-before n small N P none (lists (key i)) (linked (key i)) i h, linked-after n small N P none (lists (key i)) (linked (key i)) i h)
          go false h =
              let f = not-has i (lists (key i)) h in
              ((off i b h).0 ∙ sym (before-none none i (lists (key i)) f), (off i b h).1 ∙ sym (after_none i (lists (key i)) f))

  pub threads-linked : Threads n key lists prev next → (k : ℕ) → Linked n N P none (lists k)
  threads-linked t k =
      list-linked n small N P none (lists k) (t.listed k)
      (λ i h. t.nexts i (has-below n small key lists prev next t k i h) ∙ ap (λ (j : ℕ). after (lists j) i) (t.keyed k i h))
      (λ i h. t.prevs i (has-below n small key lists prev next t k i h) ∙ ap (λ (j : ℕ). before (lists j) i) (t.keyed k i h))

-- ---- the ranges in the records of a list

module _ (start end : List ℕ) where
  abbrev R : ℕ → Range
  R = at start end

  pub numbers-map : (l : List ℕ) → numbers (map R l) ≡ l
  numbers-map [] = refl
  numbers-map (x ∷ l) = ap (λ (k : List ℕ). x ∷ k) (numbers-map l)

  pub in_map : (r : Range) (l : List ℕ) → In r (map R l) → (x : ℕ) × (has x l ≡ true) × (r ≡ R x)
  in_map r [] x' = elim x' [ ]
  in_map r (x ∷ l) (inl e) = (x, has_first x l, e)
  in_map r (x ∷ l) (inr m) = let w = in_map r l m in (w.0, has-cons x w.0 l w.1, w.2)

  pub map-in : (x : ℕ) (l : List ℕ) → has x l ≡ true → In (R x) (map R l)
  map-in x [] h = true≢false (sym h)
  map-in x (y ∷ l) h = ⊎_elim (λ (e : x ≡ y). inl (ap R e)) (λ (d : x ≢ y). inr (map-in x l (rw (ne_eqb x y d) at h))) (same? x y)

  pub pairwise_map : (Q : Range → Range → Type 0) (l : List ℕ) → InOrder (λ x y. Q (R x) (R y)) l → Pairwise Q (map R l)
  pairwise_map Q [] h = tt
  pairwise_map Q (x ∷ l) h = (λ q m. let w = in_map q l m in subst (Q (R x)) (sym w.2) (h.0 w.0 w.1), pairwise_map Q l h.1)

  pub pairwise-numbers : (Q : Range → Range → Type 0) (l : List Range) → Stand l start end → Pairwise Q l → InOrder (λ x y. Q (R x) (R y)) (numbers l)
  pairwise-numbers Q [] s p = tt
  pairwise-numbers Q (r ∷ l) s p = (
    λ y m.
        let w = has_in y l m in
        let e : R y ≡ w.0 = ap R w.2 ∙ s w.0 (inr w.1) in
        subst (λ (q : Range). Q (R r.number) q) (sym e) (subst (λ (q : Range). Q q w.0) (sym (s r (inl refl))) (p.0 w.0 w.1)),
    pairwise-numbers Q l (λ q m. s q (inr m)) p.1,
  )
