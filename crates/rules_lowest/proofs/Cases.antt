-- The claims about the histories, by computation: the figure after each call, and the last of them counted from the vouchers alone; and which
-- figures may stand beside a total. Assumes nothing.
use mathlib.Core.Path.{◌≡◌, refl}
use mathlib.Core.Bool.{true, false}
use mathlib.Core.List.{map}
use Prim.Native.Nat.{◌-◌, ◌^◌}
use Rattle.rules.specs.Rules.{sum, before, without, put, remove, any, find, lowest, unused, down, up, taken, joined, given, refuse, allocate_from, allocate, reserve_from, reserve, free, step}
use Rattle.rules_lowest.specs.Lowest.{never, low_sound, opened, sums, least}
use Rattle.rules_lowest.specs.Cases.{Case, figures_after, last_figure, vouchers_after, table}

pub cases : map (λ (c : Case). figures_after 8 opened c.calls) table ≡ map (λ (c : Case). c.figures) table
unfolding table figures_after sum before without put remove any find lowest unused down up taken joined given refuse allocate_from allocate reserve_from reserve free step
cases = refl

pub by-vouchers : map (λ (c : Case). least never (sums 0 (vouchers_after 8 opened c.calls))) table ≡ map (λ (c : Case). last_figure never c.figures) table
unfolding table vouchers_after last_figure sums least sum before without put remove any find lowest unused down up taken joined given refuse allocate_from allocate reserve_from reserve free step
by-vouchers = refl

-- beside no byte: 0 and 2^64-1, and nothing between; beside 4096 bytes: 0 to 4096
pub may-stand : (low_sound 0 0 ≡ true) × (low_sound 0 never ≡ true) × (low_sound 0 1 ≡ false) × (low_sound 0 (2 ^ 64 - 2) ≡ false)
    × (low_sound 4096 0 ≡ true) × (low_sound 4096 4096 ≡ true) × (low_sound 4096 4097 ≡ false) × (low_sound 4096 never ≡ false)
may-stand = (refl, refl, refl, refl, refl, refl, refl, refl)
