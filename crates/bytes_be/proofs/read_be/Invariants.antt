use mathlib.Core.Path.{◌≡◌}
use Prim.Native.Nat.{◌<◌, ◌^◌}
use lib.ListN.{drop}
use Rattle.bytes_be.specs.Numbers.{more}
use Rattle.bytes_be.proofs.read_be.Given as goal

abbrev pub invariant-loop-byte : goal.invariant-loop-byte
invariant-loop-byte l =
    (l.x < 256 ^ l.byte-index) × (more l.x (drop l.byte-index l.part) ≡ more 0 l.part)
