-- The sizes of a list, as its walk has them: from the least to the most. Assumes nothing.
use Rattle.std.specs.Prelude.{ℕ, ◌-◌, ◌*◌, ◌^◌, ◌<◌, ◌≤◌, cond, ◌≢◌, ◌≡◌, ltb}
use Rattle.rules.specs.Rules.{size_lists, top, list_number}

-- the most bytes of a range of list k; no range has more than 2^63
abbrev pub most_of : ℕ → ℕ
most_of k = cond (ltb k (size_lists - 1)) (4096 * 2 ^ k) top

-- list k is that of the sizes from `least` to `most`
pub record Bounds (k least most : ℕ) : Type 0 where
  pub some : least ≤ most
  pub inside : (z : ℕ) → least ≤ z → z ≤ most → list_number z ≡ k
  pub below : (z : ℕ) → 0 < z → z < least → list_number z ≢ k
  pub above : (z : ℕ) → most < z → z ≤ top → list_number z ≢ k
