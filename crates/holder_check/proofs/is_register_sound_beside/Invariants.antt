use mathlib.Core.Path.{◌≡◌}
use mathlib.Core.List.{List}
use lib.ListN.{drop}
use Rattle.rules.specs.Rules.{Range}
use Rattle.holder_rules.specs.Sound.{register_sound}
use Rattle.holder_check.specs.Tests.{Tells}
use Rattle.holder_check.proofs.is_register_sound_beside.Given as goal

abbrev pub invariant-loop-i : goal.invariant-loop-i
invariant-loop-i g l =
    (free : List Range) → Tells (goal.F-post g l.meets_free) free → register_sound free l.register.entries ≡ register_sound free (drop l.i l.register.entries)
