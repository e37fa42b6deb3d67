use Prim.Native.Nat.{◌%◌}
use native.Mathlib.Nat.{mod-lt}
use lib.Dec.{lit<}
use Rattle.mapper_numbers.proofs.Figures.{last-is}
use Rattle.mapper_numbers.proofs.last_input.Goals as goal

pub returns : goal.returns
returns c =
    last-is (c.args.vtcr % 64) (mod-lt c.args.vtcr (lit< tt))
