use mathlib.Core.Path.{◌≡◌}
use mathlib.Core.List.{◌++◌}
use Prim.Native.Nat.{◌≤◌}
use lib.ListN.{length, drop}
use Rattle.bytes_be.specs.Numbers.{be}
use Rattle.bytes_be.proofs.put_be.Given as goal

abbrev pub invariant-loop-i : goal.invariant-loop-i
invariant-loop-i l =
    (l.i ≤ length l.initial.part) × ((length l.part ≡ length l.initial.part) × (be l.i l.rest ++ drop l.i l.part ≡ be (length l.initial.part) l.x))
