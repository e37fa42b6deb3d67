use mathlib.Core.Path.{◌≡◌}
use borrow.Author.Tests.{eq-eqb, ne_eqb}
use native.Mathlib.Omega.{arith}
use Rattle.holder_lines.specs.Lines.{said}
use Rattle.holder_lines.proofs.with_one.Goals as goal

pub returns-in-104 : goal.returns-in-104
unfolding said
returns-in-104 c =
    rw (eq-eqb _ 104 c.in-104.is)

pub returns-in_default : goal.returns-in_default
unfolding said
returns-in_default c =
    rw (ne_eqb _ 104 (λ (e : c.args.letter ≡ 104). omega arith))
