-- A link that is held by value is a number of 16 bits: `good` of a place of its owner's proof shows `Is`.
use Prim.Native.Nat.{◌≤◌}
use mathlib.Core.List.{List}
use native.Mathlib.Omega.{arith}
use mir.Val.{Val}
use denote.Laws.{Is}
use Rattle.linked_lists.specs.Links.{none}
use Rattle.pool_state.specs.declared.RecordIndex.{RecordIndex}
use Rattle.pool_state.specs.contracts.RecordIndex as T

pub owned-link : (r : RecordIndex) (vs : List Val) → Is T.the_row r vs → r.0 ≤ none
owned-link r vs is = omega (arith, is.1.1.0.1)
