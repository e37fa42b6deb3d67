use native.Mathlib.Omega.{arith}
use Rattle.rounding.proofs.Rounding.{shifted}
use Rattle.rounding.proofs.align_down.Goals as goal

pub returns : goal.returns
returns c =
    shifted _ _ (omega arith)
