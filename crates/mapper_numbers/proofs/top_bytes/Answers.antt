use Rattle.mapper_numbers.proofs.Figures.{by-shift, by-page}
use mathlib.Core.Path.{refl}
use Rattle.mapper_numbers.proofs.top_bytes.Goals as goal

pub returns-then-less-lt34 : goal.returns-then-less-lt34
returns-then-less-lt34 c =
    by-shift _ _ refl c.if-less-lt34.true

pub returns : goal.returns
returns c =
    by-page _ c.if-less-lt34.false
