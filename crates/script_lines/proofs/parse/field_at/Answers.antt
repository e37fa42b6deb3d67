-- `parse::field_at` meets its contract.
-- Assumes nothing.
use mathlib.Core.Path.{sym, ◌∙◌}
use native.Mathlib.Omega.{arith}
use Rattle.script_lines.proofs.Reading.{field-ends, past-line, number-there, no-number-there}
use Rattle.script_lines.proofs.parse.field_at.Goals as goal

pub returns-then-end-at : goal.returns-then-end-at
returns-then-end-at c =
    sym (past-line c.args.line.now c.args.at _ c.field_end-end.ensures c.if-end-at.true)

pub slice_bounds-number_of-end : goal.slice_bounds-number_of-end
slice_bounds-number_of-end c =
    omega (arith, (field-ends c.args.line.now c.args.at).within, c.field_end-end.ensures)

pub returns-in_err-value : goal.returns-in_err-value
returns-in_err-value c =
    c.from_residual.ensures ∙ sym (no-number-there c.args.line.now c.args.at _ c.field_end-end.ensures c.if-end-at.false (sym c.number_of.ensures ∙ c.in_err-value.was))

pub returns : goal.returns
returns c =
    sym (number-there c.args.line.now c.args.at _ c.field_end-end.ensures c.if-end-at.false _ (sym c.number_of.ensures ∙ c.in_ok-value.was))
