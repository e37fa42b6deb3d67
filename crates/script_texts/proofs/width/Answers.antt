-- `print::width` meets its contract. The invariant: the digits counted, and those of the rest, are one more than those of n.
-- Assumes nothing.
use native.Mathlib.Omega.{arith}
use Rattle.script_texts.proofs.Decimal.{one-long, longer-by-one, at-most-twenty}
use Rattle.script_texts.proofs.width.Goals as goal

pub overflow_add-count : goal.overflow_add-count
overflow_add-count c =
    omega (arith, at-most-twenty c.args.n (omega arith))

pub loop-rest-preserved : goal.loop-rest-preserved
loop-rest-preserved c =
    omega (arith, longer-by-one c.loop-rest.rest (omega arith))

pub returns : goal.returns
returns c =
    omega (arith, one-long c.loop-rest.rest (omega arith))
