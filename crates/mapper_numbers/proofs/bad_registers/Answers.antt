use Rattle.mapper_rules.specs.Numbers.{bad_registers_lem}
use Rattle.mapper_numbers.proofs.Figures.{size-positive}
use mathlib.Core.Path.{sym, ◌∙◌}
use Rattle.mapper_numbers.proofs.bad_registers.Goals as goal

pub returns-then-bad : goal.returns-then-bad
unfolding bad_registers_lem
returns-then-bad c =
    rw (sym c.bad_level-bad.ensures ∙ c.if-bad.true)

pub nonzero_rem-result : goal.nonzero_rem-result
nonzero_rem-result c =
    rw c.top_bytes-bytes.ensures (size-positive c.args.vtcr)

pub returns : goal.returns
unfolding bad_registers_lem
returns c =
    rw (sym c.bad_level-bad.ensures ∙ c.if-bad.false, c.top_bytes-bytes.ensures)
