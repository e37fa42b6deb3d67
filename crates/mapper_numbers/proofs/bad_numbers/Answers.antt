use Rattle.mapper_rules.specs.Numbers.{bad_numbers_lem}
use mathlib.Core.Path.{sym, ◌∙◌}
use borrow.Author.Tests.{eq-eqb, ne_eqb}
use Rattle.mapper_numbers.proofs.bad_numbers.Goals as goal

pub returns-then-bad : goal.returns-then-bad
unfolding bad_numbers_lem
returns-then-bad c =
    rw (sym c.bad_registers-bad.ensures ∙ c.if-bad.true)

pub returns-then-base-ne0 : goal.returns-then-base-ne0
unfolding bad_numbers_lem
returns-then-base-ne0 c =
    rw (sym c.bad_registers-bad.ensures ∙ c.if-bad.false, ne_eqb _ _ c.if-base-ne0.true)

pub returns : goal.returns
unfolding bad_numbers_lem
returns c =
    rw (sym c.bad_registers-bad.ensures ∙ c.if-bad.false, eq-eqb _ _ c.if-base-ne0.false) c.bad_range.ensures
