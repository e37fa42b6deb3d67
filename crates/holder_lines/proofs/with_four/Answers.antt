use mathlib.Core.Path.{◌≡◌}
use borrow.Author.Tests.{eq-eqb, ne_eqb}
use native.Mathlib.Omega.{arith}
use Rattle.holder_lines.specs.Lines.{said}
use Rattle.holder_lines.proofs.with_four.Goals as goal

pub returns-in-114 : goal.returns-in-114
unfolding said
returns-in-114 c =
    rw (eq-eqb _ 114 c.in-114.is) c.asked_by.ensures

pub returns-in_default : goal.returns-in_default
unfolding said
returns-in_default c =
    rw (ne_eqb _ 114 (λ (e : c.args.letter ≡ 114). omega arith))
