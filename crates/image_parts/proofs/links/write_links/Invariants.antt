use mathlib.Core.List.{[]}
use lib.ListN.{length, get_or}
use Rattle.bytes_be.specs.Numbers.{be}
use Rattle.image_parts.specs.Layout.{current}
use Rattle.image_parts.specs.Written.{link_number_lem}
use Rattle.image_parts.proofs.Loops.{Laying}
use Rattle.image_parts.proofs.links.write_links.Given as goal

abbrev pub invariant-loop-k : goal.invariant-loop-k
invariant-loop-k l =
    Laying (λ j. be current.link (link_number_lem current (get_or l.links j 0))) 0 current.link (length l.links) l.k [] l.part
