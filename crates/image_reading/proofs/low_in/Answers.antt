use native.Mathlib.Omega.{arith}
use borrow.Author.Tests.{eq-eqb, ne_eqb}
use Rattle.image_reading.proofs.low_in.Goals as goal

pub returns-then-form-eq0 : goal.returns-then-form-eq0
returns-then-form-eq0 c =
    rw (eq-eqb c.args.form.low 0 c.if-form-eq0.true)

pub word_in-requires : goal.word_in-requires
word_in-requires c =
    omega (arith, c.requires.form_in_bounds, c.requires.lawful.whole-low c.if-form-eq0.false)

pub returns : goal.returns
returns c =
    rw (ne_eqb c.args.form.low 0 c.if-form-eq0.false) c.word_in.ensures
