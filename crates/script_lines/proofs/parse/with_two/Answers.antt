-- `parse::with_two` meets its contract.
-- Assumes nothing.
use mathlib.Core.Path.{◌≡◌}
use borrow.Author.Tests.{eq-eqb, ne_eqb}
use native.Mathlib.Omega.{arith}
use Rattle.script_lines.specs.Script.{said}
use Rattle.script_lines.proofs.parse.with_two.Goals as goal

pub returns-in-102 : goal.returns-in-102
unfolding said
returns-in-102 c =
    rw (eq-eqb _ 102 c.in-102.is)

pub returns-in-97 : goal.returns-in-97
unfolding said
returns-in-97 c =
    rw (ne_eqb _ 102 (λ (e : c.args.letter ≡ 102). omega arith), eq-eqb _ 97 c.in-97.is)

pub returns-in_default : goal.returns-in_default
unfolding said
returns-in_default c =
    rw (ne_eqb _ 102 (λ (e : c.args.letter ≡ 102). omega arith), ne_eqb _ 97 (λ (e : c.args.letter ≡ 97). omega arith))
