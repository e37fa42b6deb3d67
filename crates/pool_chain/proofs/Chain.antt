-- What a record that goes out of the chain or into it does to what the arrays show. Assumes nothing.
use Prim.Native.Nat.{ℕ, ◌≤◌}
use mathlib.Core.Bool.{true}
use mathlib.Core.Logic.{◌≢◌, ⊎_elim}
use mathlib.Core.List.{List, ◌∷◌, ◌++◌}
use mathlib.Core.Path.{◌≡◌, sym, ap, ◌∙◌}
use lib.ListN.{get_or}
use lib.Dec.{eqb}
use borrow.Author.Tests.{eq-eqb, ne_eqb}
use Rattle.linked_lists.specs.Links.{pick, upd, none, head, after, has}
use Rattle.linked_lists.specs.Links as links
use Rattle.linked_lists.specs.Threads.{Threads, alone, only, cut, Between}
use Rattle.linked_lists.proofs.Laws.{same?, head-without, head-put, listed-left, listed-widen}
use Rattle.linked_lists.proofs.Threading.{same_lists, has-below}
use Rattle.rules.specs.Rules.{Range, without}
use Rattle.pool_state.specs.Shown.{numbers, Chained}
use Rattle.pool_chain.specs.Chain.{Enters}
use Rattle.pool_state.proofs.Walks.{numbers-append, fresh-numbers, numbers-without}

-- the family of one list, changed
only-upd : (c ys : List ℕ) (j : ℕ) → upd (only c) 0 ys j ≡ only ys j
only-upd c ys j =
    ⊎_elim (λ (e : j ≡ 0). rw (eq-eqb j 0 e)) (λ (e : j ≢ 0). rw (ne_eqb j 0 e)) (same? j 0)

module _ (n : ℕ) (small : n ≤ none) where
  pub unchained : (c : List Range) (first : ℕ) (prev next : List ℕ) → Chained n c first prev next → (i : ℕ) → has i (numbers c) ≡ true
      → (a x : ℕ) (prev' next' : List ℕ) → a ≡ get_or next i 0 → x ≡ pick (eqb first i) a first
      → Threads n alone (cut alone (only (numbers c)) i) prev' next' → Chained n (without i c) x prev' next'
  unchained c first prev next t i h a x prev' next' ea ex w =
      let e = numbers-without n i c (t.threads.listed 0) in
      let el = t.leads in
      let ea' : a ≡ after (numbers c) i = ea ∙ t.threads.nexts i (has-below n small alone (only (numbers c)) prev next t.threads 0 i h) in
      record {
        threads = same_lists n small alone _ prev' next' w (only (numbers (without i c)))
            (λ j. only-upd (numbers c) (links.without i (numbers c)) j ∙ ap (λ (l : List ℕ). only l j) (sym e));
        leads = ex ∙ (λ z. pick (eqb (el z) i) (ea' z) (el z)) ∙ sym (head-without i (numbers c)) ∙ ap head (sym e);
      }

  module _ (first : ℕ) (prev next : List ℕ) (b a : ℕ) (q : Range) (l r : List Range) (u : Enters n first prev next b a q l r) where
    pub enter-between : Between n alone (only (numbers (l ++ r))) b q.number a (numbers l) (numbers r)
    enter-between =
        record {
          below = u.below;
          parts = numbers-append l r;
          fresh = rw (numbers-append l r) at (fresh-numbers q.number (l ++ r) u.loose);
          low = u.low;
          high = u.high;
        }

    pub entered : (x : ℕ) (prev' next' : List ℕ) → x ≡ pick (eqb b none) q.number first
        → Threads n alone (upd (only (numbers (l ++ r))) 0 (numbers l ++ q.number ∷ numbers r)) prev' next'
        → Chained n (l ++ q ∷ r) x prev' next'
    entered x prev' next' ex w =
        let e = numbers-append l (q ∷ r) in
        let el = u.low in
        let ef : first ≡ head (numbers l ++ numbers r) = u.chained.leads ∙ ap head (numbers-append l r) in
        record {
          threads = same_lists n small alone _ prev' next' w (only (numbers (l ++ q ∷ r)))
              (λ j. only-upd (numbers (l ++ r)) (numbers l ++ q.number ∷ numbers r) j ∙ ap (λ (k : List ℕ). only k j) (sym e));
          leads = ex ∙ (λ z. pick (eqb (el z) none) q.number (ef z))
              ∙ sym (head-put q.number (numbers l) (numbers r)
              (listed-widen n none small (numbers l) (listed-left n (numbers l) (numbers r) (rw (numbers-append l r) at (u.chained.threads.listed 0)))))
              ∙ ap head (sym e);
        }
