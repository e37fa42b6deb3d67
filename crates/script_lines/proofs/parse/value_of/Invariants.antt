-- `parse::value_of` meets its contract. The invariant: the number from here is the whole number.
-- Assumes nothing.
use mathlib.Core.Path.{◌≡◌}
use Prim.Native.Nat.{◌^◌, ◌<◌}
use lib.ListN.{drop}
use Rattle.script_lines.specs.Steps.{value_from}
use Rattle.script_lines.proofs.parse.value_of.Given as goal

abbrev pub invariant-loop-byte : goal.invariant-loop-byte
invariant-loop-byte l =
    (l.n < 2 ^ 64) × (value_from l.n (drop l.byte-index l.field) ≡ value_from 0 l.field)
