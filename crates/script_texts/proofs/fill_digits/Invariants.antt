-- `print::fill_digits` meets its contract. The invariant: the digits still to be written, before those that are written, are the digits of n.
-- Assumes nothing.
use mathlib.Core.Path.{◌≡◌}
use mathlib.Core.List.{◌++◌}
use Prim.Native.Nat.{◌≤◌}
use lib.ListN.{length, drop}
use Rattle.script_texts.specs.Answers.{digits_of}
use Rattle.script_texts.proofs.fill_digits.Given as goal

abbrev pub invariant-loop-rest : goal.invariant-loop-rest
invariant-loop-rest l =
    (l.i ≡ length (digits_of l.rest)) × ((l.i ≤ length l.part) × ((length l.part ≡ length l.initial.part) × (digits_of l.rest ++ drop l.i l.part ≡ digits_of l.n)))

abbrev pub decreases-loop-rest : goal.decreases-loop-rest
decreases-loop-rest l =
    l.rest
