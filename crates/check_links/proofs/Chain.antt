-- The walk along the chain, with the sum of sizes so far.
use Prim.Native.Nat.{ℕ, ◌+◌, ◌-◌, ◌<◌, ◌≤◌}
use mathlib.Core.Bool.{Bool, true, false, ◌&&◌}
use mathlib.Core.Logic.{◌≢◌}
use mathlib.Core.List.{List}
use mathlib.Core.Path.{◌≡◌, refl, ◌∙◌}
use native.Mathlib.Omega.{arith}
use lib.Dec.{eqb}
use lib.ListN.{get_or}
use Rattle.linked_lists.specs.Links.{none}
use Rattle.rules.specs.Rules.{top}
use Rattle.check_links.specs.Walk.{sum_along}
use Rattle.check_records.specs.Records.{Proper}
use Rattle.check_links.specs.Walks.{size_at, chain_step_lem, chain_walk, chain_ok_lem}
use Rattle.std.specs.Prelude.{None}
use Rattle.check_links.proofs.Walk.{walk_ends, walk-stuck, walk-breaks, walk-goes, sum-ends, sum_goes}
use Rattle.check_links.proofs.Steps.{follows-true, chain-true}

module _ (n first : ℕ) (start end : List ℕ) (enabled : List Bool) (previous next : List ℕ) (c : ℕ) where
  abbrev sums : ℕ → ℕ → ℕ
  sums = sum_along (λ i. get_or next i 0) (size_at start end)

  -- what is still to be checked is the whole check
  pub record ChainAt (q i low sum left : ℕ) : Type 0 where
    pub rest : chain_walk n start end enabled previous next c none 0 first ≡ chain_walk n start end enabled previous next left q low i
    pub adds : sums c first ≡ sum + sums left i
    pub low_sum : sum ≤ low
    pub low-top : low ≤ top + 1

  pub chain-starts : ChainAt none first 0 0 c
  chain-starts = record { rest = refl; adds = omega arith; low_sum = omega arith; low-top = omega arith }

  -- a record that passes the test of the step
  pub passes : Proper n start end enabled → (q i low : ℕ) → chain_step_lem n start enabled previous q low i ≡ true
      → (i < n) × (low ≤ get_or start i 0) × (get_or start i 0 ≤ get_or end i 0) × (get_or end i 0 < top)
  passes good q i low h =
      let w = chain-true n start enabled previous q low i h in
      let v = follows-true n enabled previous q i w.0 in
      let g = good i v.0 v.1 in
      (v.0, w.1, g.0, g.1)

  module _ (q i low sum left : ℕ) (a : ChainAt q i low sum left) where
    pub chain-goes : Proper n start end enabled → left ≢ 0 → i ≢ none → chain_step_lem n start enabled previous q low i ≡ true
        → (z : ℕ) → z ≡ size_at start end i → ChainAt i (get_or next i 0) (get_or end i 0 + 2) (sum + z) (left - 1)
    chain-goes good d e h z ez =
        let g = passes good q i low h in
        let s = sum_goes (λ j. get_or next j 0) (size_at start end) left i d e in
        let t = a.adds in
        let u = a.low_sum in
        record {
          rest = a.rest ∙ walk-goes (λ j. get_or next j 0) (λ j. get_or end j 0 + 2) (chain_step_lem n start enabled previous) left q low i _ d e h refl;
          adds = omega arith;
          low_sum = omega (arith, g.1, g.2);
          low-top = omega (arith, g.3);
        }

    broken : (total : ℕ) → chain_walk n start end enabled previous next left q low i ≡ None → chain_ok_lem n total first start end enabled previous next c ≡ false
    unfolding chain_ok_lem
    broken total h = rw (a.rest ∙ h)

    pub chain-stuck : (total : ℕ) → left ≡ 0 → i ≢ none → chain_ok_lem n total first start end enabled previous next c ≡ false
    chain-stuck total z e = broken total (walk-stuck (λ j. get_or next j 0) (λ j. get_or end j 0 + 2) (chain_step_lem n start enabled previous) left q low i z e)

    pub chain-breaks : (total : ℕ) → i ≢ none → chain_step_lem n start enabled previous q low i ≡ false → chain_ok_lem n total first start end enabled previous next c ≡ false
    chain-breaks total e h = broken total (walk-breaks (λ j. get_or next j 0) (λ j. get_or end j 0 + 2) (chain_step_lem n start enabled previous) left q low i e h)

    pub chain-ends : (total : ℕ) → i ≡ none → chain_ok_lem n total first start end enabled previous next c ≡ (eqb left 0 && eqb sum total)
    unfolding chain_ok_lem
    chain-ends total e =
        let t = a.adds in
        let s = sum-ends (λ j. get_or next j 0) (size_at start end) left i e in
        let k : sums c first ≡ sum = omega arith in
        rw (a.rest ∙ walk_ends (λ j. get_or next j 0) (λ j. get_or end j 0 + 2) (chain_step_lem n start enabled previous) left q low i e, k)
