use Rattle.mapper_rules.specs.Walk.{span}
use Rattle.mapper_words.specs.Heights.{capped}
use Rattle.mapper_words.proofs.Heights.{top-height}
use Rattle.mapper_words.proofs.span_of.Goals as goal

pub returns-then-height-eq0 : goal.returns-then-height-eq0
unfolding span capped
returns-then-height-eq0 c =
    rw c.if-height-eq0.true

pub returns-then-height-eq1 : goal.returns-then-height-eq1
unfolding span capped
returns-then-height-eq1 c =
    rw c.if-height-eq1.true

pub returns-then-height-eq2 : goal.returns-then-height-eq2
unfolding span capped
returns-then-height-eq2 c =
    rw c.if-height-eq2.true

pub returns : goal.returns
unfolding span
returns c =
    rw (top-height _ c.if-height-eq0.false c.if-height-eq1.false c.if-height-eq2.false)
