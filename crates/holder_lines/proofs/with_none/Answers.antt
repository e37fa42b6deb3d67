use mathlib.Core.Path.{◌≡◌}
use borrow.Author.Tests.{eq-eqb, ne_eqb}
use native.Mathlib.Omega.{arith}
use Rattle.holder_lines.specs.Lines.{said}
use Rattle.holder_lines.proofs.with_none.Goals as goal

pub returns-in-108 : goal.returns-in-108
unfolding said
returns-in-108 c =
    rw (eq-eqb _ 108 c.in-108.is)

pub returns-in-104 : goal.returns-in-104
unfolding said
returns-in-104 c =
    rw (ne_eqb _ 108 (λ (e : c.args.letter ≡ 108). omega arith), eq-eqb _ 104 c.in-104.is)

pub returns-in_default : goal.returns-in_default
unfolding said
returns-in_default c =
    rw (ne_eqb _ 108 (λ (e : c.args.letter ≡ 108). omega arith), ne_eqb _ 104 (λ (e : c.args.letter ≡ 104). omega arith))
