use mathlib.Core.Path.{◌∙◌}
use native.Mathlib.Omega.{arith}
use Rattle.rounding.proofs.Rounding.{shift_is, power_pos, power-top, rounded}
use Rattle.rounding.proofs.align_up.Goals as goal

pub overflow_sub-m : goal.overflow_sub-m
overflow_sub-m c =
    rw (shift_is _ c.requires.1) (power_pos _)

pub overflow_add-x : goal.overflow_add-x
overflow_add-x c =
    rw (shift_is _ c.requires.1) (omega (arith, c.requires.0, power-top _ c.requires.1, power_pos c.args.order))

pub returns : goal.returns
returns c =
    c.align_down.ensures ∙ rounded _ _ _ (shift_is _ c.requires.1)
