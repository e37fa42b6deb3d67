-- `parse::with_three` meets its contract.
-- Assumes nothing.
use mathlib.Core.Path.{◌≡◌}
use borrow.Author.Tests.{eq-eqb, ne_eqb}
use native.Mathlib.Omega.{arith}
use Rattle.script_lines.specs.Script.{said}
use Rattle.script_lines.proofs.parse.with_three.Goals as goal

pub returns-in-114 : goal.returns-in-114
unfolding said
returns-in-114 c =
    rw (eq-eqb _ 114 c.in-114.is)

pub returns-in_default : goal.returns-in_default
unfolding said
returns-in_default c =
    rw (ne_eqb _ 114 (λ (e : c.args.letter ≡ 114). omega arith))
