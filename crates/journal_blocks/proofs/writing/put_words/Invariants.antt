use Prim.Native.Nat.{◌-◌}
use mathlib.Core.List.{[]}
use lib.ListN.{length, get_or}
use Rattle.bytes_be.specs.Numbers.{be}
use Rattle.image_parts.proofs.Loops.{Laying}
use Rattle.journal_blocks.proofs.writing.put_words.Given as goal

abbrev pub invariant-loop-k : goal.invariant-loop-k
invariant-loop-k l =
    Laying (λ j. be 8 (get_or l.words j 0)) 0 8 (length l.words) l.k [] l.part

abbrev pub decreases-loop-k : goal.decreases-loop-k
decreases-loop-k l =
    length l.words - l.k
