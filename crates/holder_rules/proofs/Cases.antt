-- The claim about the table of cases, by computation. Assumes nothing.
use mathlib.Core.Path.{◌≡◌, refl}
use mathlib.Core.List.{List, map}
use Prim.Native.Nat.{ℕ}
use Rattle.rules.specs.Rules.{sum, before, without, put, remove, any, find, lowest, unused, down, up, taken, joined, given, allocate_from, allocate, reserve_from, reserve, free}
use Rattle.rules.specs.Rules as rules
use Rattle.rules_engine.specs.Engine as engines
use Rattle.holder_rules.specs.Register.{blanks, held, full, replace, by_address, those}
use Rattle.holder_rules.specs.Holders.{nothing, refuse, unless_refused, unless_other, offer, give_back_lem, take_as, take, asked, step}
use Rattle.holder_rules.specs.Cases.{Case, bounds, play, leaves, table}
use Rattle.holder_rules.specs.declared.Entry.{Entry}

-- each case prints what it should, and leaves the entries that it should
pub cases : (map (λ (c : Case). play c.records (nothing (engines.rules c.records) c.entries) c.lines) table ≡ map (λ (c : Case). c.prints) table)
    × (map (λ (c : Case). leaves c.records (nothing (engines.rules c.records) c.entries) c.lines) table ≡ map (λ (c : Case). c.left) table)
unfolding bounds play leaves table blanks held full replace by_address those refuse unless_refused unless_other offer give_back_lem take_as take asked step sum before without put remove any find lowest unused down up taken joined given rules.refuse allocate_from allocate reserve_from reserve free rules.step
cases = (refl, refl)
