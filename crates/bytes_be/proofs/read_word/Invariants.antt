use mathlib.Core.Path.{◌≡◌}
use Prim.Native.Nat.{◌≤◌, ◌<◌, ◌^◌}
use lib.ListN.{length, drop}
use Rattle.bytes_be.specs.Numbers.{more}
use Rattle.bytes_be.proofs.read_word.Given as goal

abbrev pub invariant-loop-i : goal.invariant-loop-i
invariant-loop-i l =
    (l.i ≤ length l.part) × ((l.x < 256 ^ l.i) × (more l.x (drop l.i l.part) ≡ more 0 l.part))
