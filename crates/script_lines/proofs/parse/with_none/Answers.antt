-- `parse::with_none` meets its contract.
-- Assumes nothing.
use mathlib.Core.Path.{◌≡◌}
use borrow.Author.Tests.{eq-eqb, ne_eqb}
use native.Mathlib.Omega.{arith}
use Rattle.script_lines.specs.Script.{said}
use Rattle.script_lines.proofs.parse.with_none.Goals as goal

pub returns-in-108 : goal.returns-in-108
unfolding said
returns-in-108 c =
    rw (eq-eqb _ 108 c.in-108.is)

pub returns-in_default : goal.returns-in_default
unfolding said
returns-in_default c =
    rw (ne_eqb _ 108 (λ (e : c.args.letter ≡ 108). omega arith))
