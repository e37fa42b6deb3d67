use Prim.Native.Nat.{◌-◌}
use mathlib.Core.Path.{◌≡◌}
use lib.ListN.{length}
use Rattle.image_parts.proofs.Loops.{Filling}
use Rattle.image_records.specs.Records.{link_in}
use Rattle.image_records.proofs.numbers.read_links.Given as goal

abbrev pub invariant-loop-k : goal.invariant-loop-k
invariant-loop-k l =
    (l.k-end ≡ length l.initial.links) × Filling (link_in l.form l.image l.at) (length l.initial.links) l.k l.links

abbrev pub decreases-loop-k : goal.decreases-loop-k
decreases-loop-k l =
    l.k-end - l.k
