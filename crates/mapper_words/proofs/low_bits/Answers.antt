use Rattle.std.proofs.Common.{eq-eqb, ne_eqb}
use Rattle.mapper_words.proofs.low_bits.Goals as goal

pub returns-then-height-eq0 : goal.returns-then-height-eq0
returns-then-height-eq0 c =
    rw (eq-eqb _ _ c.if-height-eq0.true)

pub returns : goal.returns
returns c =
    rw (ne_eqb _ _ c.if-height-eq0.false)
