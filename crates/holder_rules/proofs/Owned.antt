-- The arrays of a register that is held by value have the places that their types say: `good` of a place of its owner's proof shows `Is`.
use mathlib.Core.List.{List}
use mathlib.Core.Path.{◌≡◌}
use mir.Val.{Val}
use denote.Laws.{Is}
use lib.ListN.{length}
use Rattle.holder_rules.specs.Register.{entries}
use Rattle.holder_rules.specs.declared.Register.{Register}
use Rattle.holder_rules.specs.contracts.Register as R

pub owned-entries : (r : Register) (vs : List Val) → Is R.the_row r vs → length r.entries ≡ entries
owned-entries r vs is = is.1.1.0.1.0.1
