use borrow.Author.Tests.{eq-eqb, ne_eqb}
use Rattle.mapper_rules.specs.Numbers.{bad_level_lem}
use Rattle.mapper_numbers.proofs.bad_level.Goals as goal

pub returns-then-sl-eq2 : goal.returns-then-sl-eq2
unfolding bad_level_lem
returns-then-sl-eq2 c =
    rw (eq-eqb _ _ c.if-sl-eq2.true) c.is_outside.ensures

pub returns-then-sl-eq1 : goal.returns-then-sl-eq1
unfolding bad_level_lem
returns-then-sl-eq1 c =
    rw (ne_eqb _ _ c.if-sl-eq2.false, eq-eqb _ _ c.if-sl-eq1.true) c.is_outside-then-sl-eq1.ensures

pub returns-then-sl-eq0 : goal.returns-then-sl-eq0
unfolding bad_level_lem
returns-then-sl-eq0 c =
    rw (ne_eqb _ _ c.if-sl-eq2.false, ne_eqb _ _ c.if-sl-eq1.false, eq-eqb _ _ c.if-sl-eq0.true) c.is_outside-then-sl-eq0.ensures

pub returns : goal.returns
unfolding bad_level_lem
returns c =
    rw (ne_eqb _ _ c.if-sl-eq2.false, ne_eqb _ _ c.if-sl-eq1.false, ne_eqb _ _ c.if-sl-eq0.false)
