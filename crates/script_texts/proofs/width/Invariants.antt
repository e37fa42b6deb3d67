-- `print::width` meets its contract. The invariant: the digits counted, and those of the rest, are one more than those of n.
-- Assumes nothing.
use mathlib.Core.Path.{◌≡◌}
use Prim.Native.Nat.{◌+◌}
use lib.ListN.{length}
use Rattle.script_texts.specs.Answers.{digits_of}
use Rattle.script_texts.proofs.width.Given as goal

abbrev pub invariant-loop-rest : goal.invariant-loop-rest
invariant-loop-rest l =
    l.count + length (digits_of l.rest) ≡ 1 + length (digits_of l.n)

abbrev pub decreases-loop-rest : goal.decreases-loop-rest
decreases-loop-rest l =
    l.rest
