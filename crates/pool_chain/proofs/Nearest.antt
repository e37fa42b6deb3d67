-- A search along the chain may begin at any record that starts below the address. Assumes nothing.
use Prim.Native.Nat.{ℕ, ◌<◌, ◌≤◌}
use mathlib.Core.Bool.{Bool, true, false}
use mathlib.Core.Logic.{◌≢◌, ⊎_elim}
use mathlib.Core.List.{List, ◌∷◌}
use mathlib.Core.Path.{◌≡◌, refl, sym, ap, ◌∙◌, subst}
use lib.Dec.{eqb}
use lib.ListN.{get_or}
use native.Mathlib.Omega.{arith}
use borrow.Author.Tests.{eq-eqb, ne_eqb}
use Rattle.linked_lists.specs.Links.{none, pick, has, last_from}
use Rattle.linked_lists.proofs.Laws.{same?, true≢false}
use Rattle.rules.specs.Rules.{Range, start_of}
use Rattle.rules.specs.Sound.{In, Ahead}
use Rattle.pool_state.specs.Shown.{numbers, Walked}
use Rattle.pool_state.proofs.Walks.{in_left, in-has, has_in, part, pair-low, walk-starts, walk-on, Stands}
use Rattle.pool_chain.specs.Chain.{Ordered, StartsBelow}

module _ (n : ℕ) (small : n ≤ none) (c : List Range) (start end next : List ℕ) (first : ℕ) (o : Ordered n c start end next first) (s i : ℕ) where
  -- a record that does not start at 0 is one of the chain's
  used : i < n → 0 < get_or start i 0 → has i (numbers c) ≡ true
  used k z = go (has i (numbers c)) refl
    where
      go : (b : Bool) → has i (numbers c) ≡ b → has i (numbers c) ≡ true
      go true e = e
      go false e =
          let f = o.clear i k (λ r m d. true≢false (sym (in-has r c m) ∙ ap (λ (j : ℕ). has j (numbers c)) (sym d) ∙ e)) in
          absurd (let y : ⊥ = omega arith in y)

  -- the ranges before one that starts below the address start below it too
  stands-there : (q : Range) → In q c → i ≡ q.number → q.start < s → (b : ℕ) × Stands n small start_of c start end next o.runs s b i
  stands-there q m e h =
      let w = part q c m in (
        last_from none (numbers w.0),
        record {
          low = w.0;
          here = q;
          high = w.1;
          parts = w.2;
          smaller = λ p j.
              let a = pair-low Ahead w.0 q w.1 (rw w.2 at o.apart) p j in
              let g = (o.runs.good p (rw w.2 (in_left p w.0 (q ∷ w.1) j))).proper in
              omega arith;
          at_last = refl;
          at_here = e;
        },
      )

  begins-at : i < n → 0 < get_or start i 0 → get_or start i 0 < s → Walked start_of c s i (get_or next i 0)
  begins-at k z h =
      let v = has_in i c (used k z) in
      let e : get_or start i 0 ≡ v.0.start = ap (λ (j : ℕ). get_or start j 0) v.2 ∙ ap (λ (r : Range). r.start) (o.runs.stand v.0 v.1) in
      let w = stands-there v.0 v.1 v.2 (omega arith) in
      walk-on n small start_of c start end next o.runs s w.0 i w.1 h

  pub begins : StartsBelow n start s i → Walked start_of c s i (pick (eqb i none) first (get_or next i 0))
  begins b = ⊎_elim
      (λ (e : i ≡ none). rw (eq-eqb i none e) (subst (λ (j : ℕ). Walked start_of c s j first) (sym e) (walk-starts n small start_of c start end next o.runs s first o.leads)))
      (λ (e : i ≢ none). let w = b e in rw (ne_eqb i none e) (begins-at w.0 w.1 w.2))
      (same? i none)
