use Prim.Native.Nat.{ℕ, ◌+◌, ◌-◌, ◌%◌}
use lib.Dec.{ltb, lit<}
use Rattle.rounding.proofs.Rounding.{power_pos}
use Rattle.mapper_rules.specs.Walk.{input_top}
use Rattle.mapper_rules.specs.Numbers.{output_top, bad_range_lem}
use mathlib.Core.Path.{sym, ◌∙◌, ap}
use borrow.Author.Tests.{eq-eqb, ne_eqb}
use Rattle.mapper_numbers.proofs.Sums.{ends_above}
use Rattle.mapper_numbers.proofs.bad_range.Goals as goal

pub returns-then-size-eq0 : goal.returns-then-size-eq0
unfolding bad_range_lem
returns-then-size-eq0 c =
    rw (eq-eqb _ _ c.if-size-eq0.true)

pub returns-then-size-ne0 : goal.returns-then-size-ne0
unfolding bad_range_lem
returns-then-size-ne0 c =
    rw (ne_eqb _ _ c.if-size-eq0.false, ne_eqb _ _ c.if-size-ne0.true)

pub returns-then-output-ne0 : goal.returns-then-output-ne0
unfolding bad_range_lem
returns-then-output-ne0 c =
    rw (ne_eqb _ _ c.if-size-eq0.false, eq-eqb _ _ c.if-size-ne0.false, ne_eqb _ _ c.if-output-ne0.true)

pub returns-then-input-ne0 : goal.returns-then-input-ne0
unfolding bad_range_lem
returns-then-input-ne0 c =
    rw (ne_eqb _ _ c.if-size-eq0.false, eq-eqb _ _ c.if-size-ne0.false, eq-eqb _ _ c.if-output-ne0.false, ne_eqb _ _ c.if-input-ne0.true)

pub returns-then-past : goal.returns-then-past
unfolding bad_range_lem
returns-then-past c =
    let size = c.if-size-eq0.false in
    let above = sym (ends_above output_top c.args.output c.args.size (lit< tt) size) ∙ sym c.below_sum-past.ensures ∙ c.if-past.true in
    rw (
      ne_eqb _ _ size,
      eq-eqb _ _ c.if-size-ne0.false,
      eq-eqb _ _ c.if-output-ne0.false,
      eq-eqb _ _ c.if-input-ne0.false,
      above,
    )

pub returns : goal.returns
unfolding bad_range_lem
returns c =
    let size = c.if-size-eq0.false in
    let below = sym (ends_above output_top c.args.output c.args.size (lit< tt) size) ∙ sym c.below_sum-past.ensures ∙ c.if-past.false in
    rw (
      ne_eqb _ _ size,
      eq-eqb _ _ c.if-size-ne0.false,
      eq-eqb _ _ c.if-output-ne0.false,
      eq-eqb _ _ c.if-input-ne0.false,
      below,
    )
    (c.below_sum.ensures
    ∙ ap (λ (y : ℕ). ltb y (c.args.input + (c.args.size - 1))) c.last_input.ensures
    ∙ ends_above (input_top c.args.vtcr) c.args.input c.args.size (power_pos (64 - c.args.vtcr % 64)) size)
