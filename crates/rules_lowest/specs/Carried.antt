-- What is promised of the lowest figure that the states of an engine carry, over any list of calls or whatever else its calls are made by.
-- Demand 3 (crates/rules_engine/specs/Demand.antt) stands beside it word for word; among what may differ is this figure too. Assumes nothing.
use Rattle.std.specs.Prelude.{ℕ, ◌≤◌, true, List, ◌≢◌, ◌≡◌}
use Rattle.rules.specs.Rules.{Call, Voucher}
use Rattle.rules_engine.specs.Engine.{Engine, after, vouchers}
use Rattle.rules_engine.specs.Demand.{left}
use Rattle.rules_lowest.specs.Lowest.{never, low_sound, sums, least}

-- After any history h: `left` is the state that it leaves, and `kept` its vouchers, oldest first.
pub record LowestOf (e : Engine) (low : e.State → ℕ) (H : Type 0) (left : H → e.State) (kept : H → List Voucher) : Type 0 where
  -- It is the least total after an accepted call, counted from the calls and their answers alone, and 2^64-1 where none was accepted.
  pub least-counted : (h : H) → low (left h) ≡ least never (sums 0 (kept h))
  -- It is not above the total, or 2^64-1 where nothing is free.
  pub fits-total : (h : H) → low_sound (e.total (left h)) (low (left h)) ≡ true
  -- A refusal leaves it,
  pub refusal-leaves : (h : H) (c : Call) → (e.answer c (left h)).number ≢ 0 → low (e.next c (left h)) ≡ low (left h)
  -- and no call raises it: handing back restores the ranges, not this figure.
  pub never-raised : (h : H) (c : Call) → low (e.next c (left h)) ≤ low (left h)

-- the histories are lists of calls, from the first state on
abbrev pub Lowest : (e : Engine) → (e.State → ℕ) → Type 0
Lowest e low = LowestOf e low (List Call) (left e) (vouchers e e.new)

-- from the state s on: the least of its own figure and of the sums, counted from its own total
abbrev pub CountsFrom : (e : Engine) → (e.State → ℕ) → e.State → Type 0
CountsFrom e low s = (cs : List Call) → low (after e s cs) ≡ least (low s) (sums (e.total s) (vouchers e s cs))
