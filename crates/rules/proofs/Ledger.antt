-- The claim about the ledger's table, by computation. Assumes nothing.
use mathlib.Core.Path.{◌≡◌, refl}
use mathlib.Core.List.{map}
use Rattle.rules.specs.Rules.{records, empty, sum, before, without, put, remove, any, find, lowest, unused, down, up, taken, joined, given, refuse, allocate_from, allocate, reserve_from, reserve, free, step}
use Rattle.rules.specs.Ledger.{Case, bounds, play, table}

-- each case prints what the document says
pub ledger : map (λ (c : Case). play records empty c.lines) table ≡ map (λ (c : Case). c.prints) table
unfolding bounds play table sum before without put remove any find lowest unused down up taken joined given refuse allocate_from allocate reserve_from reserve free step
ledger = refl
