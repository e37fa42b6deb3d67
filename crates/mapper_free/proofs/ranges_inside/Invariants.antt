use mathlib.Core.Path.{◌≡◌}
use mathlib.Core.Bool.{true}
use Rattle.mapper_free.specs.Free.{all_inside}
use Rattle.mapper_free.proofs.ranges_inside.Given as goal

abbrev pub invariant-loop-i : goal.invariant-loop-i
invariant-loop-i l =
    true ≡ all_inside l.low l.high l.starts l.lasts l.i
