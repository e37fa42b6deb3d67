-- The steps of the two kinds of walk, and what the walks tell of links.
use Prim.Native.Nat.{ℕ, suc, ◌+◌, ◌<◌, ◌≤◌}
use mathlib.Core.Bool.{Bool, true}
use mathlib.Core.Logic.{inl}
use mathlib.Core.List.{List}
use mathlib.Core.Path.{◌≡◌, refl, sym, subst}
use native.Mathlib.Omega.{arith}
use lib.ListN.{get_or}
use Rattle.linked_lists.specs.Links.{none, has, Linked}
use Rattle.linked_lists.proofs.Check.{linked-after, linked-before}
use Rattle.pool_state.specs.Shown.{key_at}
use Rattle.check_records.specs.Records.{used, Proper}
use Rattle.check_links.specs.Walks.{size_at, chain_step_lem, list_step}
use Rattle.check_meaning.specs.Paragraph.{Link, Meets}
use Rattle.check_links.proofs.Steps.{follows-true, true-follows, chain-true, true-chain, list-true, true-list}
use Rattle.check_meaning.proofs.Orders.{leads-head, leads-linked, head-link, after-link, before-link}
use Rattle.check_meaning.proofs.Walked.{Tests}

pub chain-tests : (n : ℕ) (start end : List ℕ) (enabled : List Bool) (previous : List ℕ) → Proper n start end enabled
    → Tests n previous (λ i. get_or start i 0) (λ i. get_or end i 0 + 2) (λ i. used enabled i ≡ true) (λ x y. suc (get_or end x 0) < get_or start y 0) (chain_step_lem n start enabled previous)
chain-tests n start end enabled previous good = record {
  told = λ q low x h.
      let w = chain-true n start enabled previous q low x h in
      let v = follows-true n enabled previous q x w.0 in
      (v.0, v.1, v.2, w.1);
  shown = λ q low x b u e h. true-chain n start enabled previous q low x (true-follows n enabled previous q x b u e) h;
  rises = λ x b u. let g = good x b u in omega (arith, g.0);
  ahead = λ x y h. omega arith;
  behind = λ x y h. omega arith;
}

pub list-tests : (n : ℕ) (start end : List ℕ) (enabled : List Bool) (lprev : List ℕ) (k : ℕ)
    → Tests n lprev (size_at start end) (size_at start end) (λ i. (used enabled i ≡ true) × (key_at start end i ≡ k))
    (λ x y. size_at start end x ≤ size_at start end y) (list_step n start end enabled lprev k)
list-tests n start end enabled lprev k = record {
  told = λ q low x h.
      let w = list-true n start end enabled lprev k q low x h in
      let v = follows-true n enabled lprev q x w.0 in
      (v.0, (v.1, w.2), v.2, w.1);
  shown = λ q low x b u e h. true-list n start end enabled lprev k q low x (true-follows n enabled lprev q x b u.0 e) h u.1;
  rises = λ x b u. omega arith;
  ahead = λ x y h. h;
  behind = λ x y h. h;
}

module _ {n : ℕ} (small : n ≤ none) {These : ℕ → Type 0} {R : ℕ → ℕ → Type 0} {next prev : List ℕ} {i : ℕ} (m : Meets n These R next prev i) where
  pub meets-below : (x : ℕ) → has x m.list ≡ true → x < n
  meets-below x h = ((m.exactly x).0 h).0

  pub meets-linked : Linked n (λ j. get_or next j 0) (λ j. get_or prev j 0) none m.list
  meets-linked = leads-linked n next prev none i m.list m.leads m.reverse meets-below

  pub meets-first : Link n i
  meets-first = subst (Link n) (sym (leads-head n next prev i m.list m.leads)) (head-link n m.list meets-below)

  pub meets-links : (x : ℕ) → x < n → These x → Link n (get_or prev x 0) × Link n (get_or next x 0)
  meets-links x b u =
      let h = (m.exactly x).1 (b, u) in (
        subst (Link n) (sym (linked-before n small (λ j. get_or next j 0) (λ j. get_or prev j 0) none m.list meets-linked x h)) (before-link n none m.list (inl refl) meets-below x),
        subst (Link n) (sym (linked-after n small (λ j. get_or next j 0) (λ j. get_or prev j 0) none m.list meets-linked x h)) (after-link n m.list meets-below x),
      )
