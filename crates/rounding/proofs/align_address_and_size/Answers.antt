use Prim.Native.Nat.{◌+◌}
use native.Mathlib.Omega.{arith}
use Rattle.rules_laws.proofs.Outcomes.{down_le, le_up}
use Rattle.rounding.proofs.align_address_and_size.Goals as goal

pub overflow_sub-result : goal.overflow_sub-result
overflow_sub-result c =
    omega (arith, c.align_up-past.ensures, c.align_down-from.ensures, down_le c.args.order c.args.start.0, le_up c.args.order (c.args.start.0 + c.args.size))
