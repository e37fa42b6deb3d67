-- `parse::number_of` meets its contract.
-- Assumes nothing.
use mathlib.Core.Path.{sym, ◌∙◌}
use native.Mathlib.Omega.{arith}
use borrow.Author.Tests.{eq-eqb, ne_eqb}
use Rattle.script_lines.proofs.Numbers.{led, not-led, leads_one, leads-many, no-digits}
use Rattle.script_lines.proofs.parse.number_of.Goals as goal

pub returns-then-field-eq0 : goal.returns-then-field-eq0
returns-then-field-eq0 c =
    sym (no-digits c.args.field.now c.if-field-eq0.true)

pub returns-then-field-eq1 : goal.returns-then-field-eq1
returns-then-field-eq1 c =
    let l = c.args.field.now in
    c.value_of.ensures ∙ sym (led l (leads_one l c.if-field-eq1.true))

pub returns-then-field-eq48 : goal.returns-then-field-eq48
returns-then-field-eq48 c =
    let l = c.args.field.now in
    sym (not-led l (leads-many l (omega arith) ∙ rw (eq-eqb _ 48 c.if-field-eq48.true)))

pub returns : goal.returns
returns c =
    let l = c.args.field.now in
    c.value_of-2.ensures ∙ sym (led l (leads-many l (omega arith) ∙ rw (ne_eqb _ 48 c.if-field-eq48.false)))
