-- `with_fields` meets its contract: a law for each return, by what the fields on the way answered.
use mathlib.Core.Path.{refl, sym, ◌∙◌}
use Rattle.script_lines.proofs.Reading.{none_read, one_number, one-read, two-numbers, two-read, three-numbers, three-read, four-numbers, past-four}
use Rattle.holder_lines.specs.Lines.{said}
use Rattle.holder_lines.specs.declared.HolderLine.TheVariants.{Bad}
use Rattle.holder_lines.proofs.with_fields.Goals as goal

pub returns-in_err-x : goal.returns-in_err-x
returns-in_err-x c =
    rw c.from_residual.ensures (sym (none_read said Bad c.args.letter c.args.line.now c.args.at
    (sym c.field_at.ensures ∙ c.in_err-x.was)))

pub returns-then-line-x : goal.returns-then-line-x
returns-then-line-x c =
    c.with_one.ensures ∙ sym (one_number said Bad c.args.letter c.args.line.now c.args.at
    _ (sym c.field_at.ensures ∙ c.in_ok-x.was) c.if-line-x.true)

pub returns-in_err-y : goal.returns-in_err-y
returns-in_err-y c =
    rw c.from_residual-in_err-y.ensures (sym (one-read said Bad c.args.letter c.args.line.now c.args.at
    _ (sym c.field_at.ensures ∙ c.in_ok-x.was) c.if-line-x.false
    (sym c.field_at-2.ensures ∙ c.in_err-y.was)))

pub returns-then-line-y : goal.returns-then-line-y
returns-then-line-y c =
    c.with_two.ensures ∙ sym (two-numbers said Bad c.args.letter c.args.line.now c.args.at
    _ (sym c.field_at.ensures ∙ c.in_ok-x.was) c.if-line-x.false
    _ (sym c.field_at-2.ensures ∙ c.in_ok-y.was) c.if-line-y.true)

pub returns-in_err-z : goal.returns-in_err-z
returns-in_err-z c =
    rw c.from_residual-in_err-z.ensures (sym (two-read said Bad c.args.letter c.args.line.now c.args.at
    _ (sym c.field_at.ensures ∙ c.in_ok-x.was) c.if-line-x.false
    _ (sym c.field_at-2.ensures ∙ c.in_ok-y.was) c.if-line-y.false
    (sym c.field_at-3.ensures ∙ c.in_err-z.was)))

pub returns-then-line-z : goal.returns-then-line-z
returns-then-line-z c =
    c.with_three.ensures ∙ sym (three-numbers said Bad c.args.letter c.args.line.now c.args.at
    _ (sym c.field_at.ensures ∙ c.in_ok-x.was) c.if-line-x.false
    _ (sym c.field_at-2.ensures ∙ c.in_ok-y.was) c.if-line-y.false
    _ (sym c.field_at-3.ensures ∙ c.in_ok-z.was) c.if-line-z.true)

pub returns-in_err-w : goal.returns-in_err-w
returns-in_err-w c =
    rw c.from_residual-in_err-w.ensures (sym (three-read said Bad c.args.letter c.args.line.now c.args.at
    _ (sym c.field_at.ensures ∙ c.in_ok-x.was) c.if-line-x.false
    _ (sym c.field_at-2.ensures ∙ c.in_ok-y.was) c.if-line-y.false
    _ (sym c.field_at-3.ensures ∙ c.in_ok-z.was) c.if-line-z.false
    (sym c.field_at-4.ensures ∙ c.in_err-w.was)))

pub returns-then-line-w : goal.returns-then-line-w
returns-then-line-w c =
    c.with_four.ensures ∙ sym (four-numbers said Bad c.args.letter c.args.line.now c.args.at
    _ (sym c.field_at.ensures ∙ c.in_ok-x.was) c.if-line-x.false
    _ (sym c.field_at-2.ensures ∙ c.in_ok-y.was) c.if-line-y.false
    _ (sym c.field_at-3.ensures ∙ c.in_ok-z.was) c.if-line-z.false
    _ (sym c.field_at-4.ensures ∙ c.in_ok-w.was) c.if-line-w.true)

pub returns : goal.returns
unfolding said
returns c =
    sym (past-four said Bad c.args.letter c.args.line.now c.args.at
    _ (sym c.field_at.ensures ∙ c.in_ok-x.was) c.if-line-x.false
    _ (sym c.field_at-2.ensures ∙ c.in_ok-y.was) c.if-line-y.false
    _ (sym c.field_at-3.ensures ∙ c.in_ok-z.was) c.if-line-z.false
    _ (sym c.field_at-4.ensures ∙ c.in_ok-w.was) c.if-line-w.false (λ v vs. refl))
