use mathlib.Core.Path.{◌≡◌}
use borrow.Author.Tests.{eq-eqb, ne_eqb}
use native.Mathlib.Omega.{arith}
use Rattle.holder_lines.specs.Lines.{said}
use Rattle.holder_lines.proofs.with_two.Goals as goal

pub returns-in-111 : goal.returns-in-111
unfolding said
returns-in-111 c =
    rw (eq-eqb _ 111 c.in-111.is)

pub returns-in_default : goal.returns-in_default
unfolding said
returns-in_default c =
    rw (ne_eqb _ 111 (λ (e : c.args.letter ≡ 111). omega arith))
