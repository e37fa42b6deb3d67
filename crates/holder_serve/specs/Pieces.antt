-- The piece of a call that can be worked out in numbers of 64 bits. Assumes nothing.
use Rattle.std.specs.Prelude.{ℕ, ◌+◌, ◌≤◌, ◌<◌}
use Rattle.rules.specs.Rules.{top, Call, Free, Allocate, Reserve, from, past}

abbrev pub order_of : Call → ℕ
order_of (Free s z) = 0
order_of (Allocate z o) = 0
order_of (Reserve s z o) = o

-- some byte, all below 2^63, and an order that can be rounded to
pub record Moves (c : Call) (x : ℕ) : Type 0 where
  pub some_byte : from c x < past c x
  pub below : past c x ≤ top
  pub order : order_of c ≤ 63
