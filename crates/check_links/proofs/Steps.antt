-- The test of one step of a walk.
use Prim.Native.Nat.{ℕ, ◌<◌, ◌≤◌}
use mathlib.Core.Bool.{Bool, true, false, ◌&&◌}
use mathlib.Core.List.{List}
use mathlib.Core.Path.{◌≡◌, sym, ap, ◌∙◌}
use borrow.Author.Tests.{ltb-true, eqb-true, lt-ltb, eq-eqb, le-leb, lt-leb, leb-true}
use lib.Dec.{eqb, leb, ltb}
use lib.ListN.{get_or}
use Rattle.rules.specs.Rules.{list_number}
use Rattle.pool_state.specs.Shown.{key_at}
use Rattle.check_records.specs.Records.{used}
use Rattle.check_links.specs.Walks.{follows, size_at, chain_step_lem, list_step}
use Rattle.check_records.proofs.Tests.{and-true}

module _ (n : ℕ) (enabled : List Bool) (prev : List ℕ) (q i : ℕ) where
  pub follows-true : follows n enabled prev q i ≡ true → (i < n) × (used enabled i ≡ true) × (get_or prev i 0 ≡ q)
  unfolding follows
  follows-true h =
      let w = and-true (ltb i n) (used enabled i && eqb (get_or prev i 0) q) h in
      let v = and-true (used enabled i) (eqb (get_or prev i 0) q) w.1 in
      (ltb-true i n w.0, v.0, eqb-true (get_or prev i 0) q v.1)

  pub true-follows : i < n → used enabled i ≡ true → get_or prev i 0 ≡ q → follows n enabled prev q i ≡ true
  unfolding follows
  true-follows b u e = rw (lt-ltb i n b, u, eq-eqb (get_or prev i 0) q e)

module _ (n : ℕ) (start : List ℕ) (enabled : List Bool) (previous : List ℕ) (q low i : ℕ) where
  pub chain-true : chain_step_lem n start enabled previous q low i ≡ true → (follows n enabled previous q i ≡ true) × (low ≤ get_or start i 0)
  unfolding chain_step_lem
  chain-true h = let w = and-true (follows n enabled previous q i) (leb low (get_or start i 0)) h in (w.0, leb-true low (get_or start i 0) w.1)

  pub true-chain : follows n enabled previous q i ≡ true → low ≤ get_or start i 0 → chain_step_lem n start enabled previous q low i ≡ true
  unfolding chain_step_lem
  true-chain f h = rw (f, le-leb low (get_or start i 0) h)

  pub chain-unfollowed : follows n enabled previous q i ≡ false → chain_step_lem n start enabled previous q low i ≡ false
  unfolding chain_step_lem
  chain-unfollowed f = rw f

  pub chain-tested : follows n enabled previous q i ≡ true → chain_step_lem n start enabled previous q low i ≡ leb low (get_or start i 0)
  unfolding chain_step_lem
  chain-tested f = rw f

module _ (n : ℕ) (start end : List ℕ) (enabled : List Bool) (lprev : List ℕ) (k q low i : ℕ) where
  pub list-true : list_step n start end enabled lprev k q low i ≡ true → (follows n enabled lprev q i ≡ true) × (low ≤ size_at start end i) × (key_at start end i ≡ k)
  unfolding list_step
  list-true h =
      let w = and-true (follows n enabled lprev q i) (leb low (size_at start end i) && eqb (key_at start end i) k) h in
      let v = and-true (leb low (size_at start end i)) (eqb (key_at start end i) k) w.1 in
      (w.0, leb-true low (size_at start end i) v.0, eqb-true (key_at start end i) k v.1)

  pub true-list : follows n enabled lprev q i ≡ true → low ≤ size_at start end i → key_at start end i ≡ k → list_step n start end enabled lprev k q low i ≡ true
  unfolding list_step
  true-list f h e = rw (f, le-leb low (size_at start end i) h, eq-eqb (key_at start end i) k e)

  pub list-unfollowed : follows n enabled lprev q i ≡ false → list_step n start end enabled lprev k q low i ≡ false
  unfolding list_step
  list-unfollowed f = rw f

  pub list-falls : (z : ℕ) → follows n enabled lprev q i ≡ true → z ≡ size_at start end i → z < low → list_step n start end enabled lprev k q low i ≡ false
  unfolding list_step
  list-falls z f e h = rw (f, lt-leb low (size_at start end i) (rw e at h))

  pub list-keyed : (z j : ℕ) → follows n enabled lprev q i ≡ true → z ≡ size_at start end i → low ≤ z → j ≡ list_number z → list_step n start end enabled lprev k q low i ≡ eqb j k
  unfolding list_step
  list-keyed z j f e h g = rw (f, le-leb low (size_at start end i) (rw e at h)) (ap (λ (m : ℕ). eqb m k) (sym (g ∙ ap list_number e)))
