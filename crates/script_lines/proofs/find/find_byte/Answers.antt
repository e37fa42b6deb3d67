-- `find::find_byte` meets its contract. The invariant: what is found from here is what is found from `from`.
-- Assumes nothing.
use mathlib.Core.Path.{sym, ◌∙◌}
use native.Mathlib.Omega.{arith}
use borrow.Author.Tests.{eq-eqb, ne_eqb}
use Rattle.script_lines.proofs.Splits.{look, look-out}
use Rattle.script_lines.proofs.find.find_byte.Goals as goal

pub returns-then-buf-i : goal.returns-then-buf-i
returns-then-buf-i c =
    let l = c.loop-i in
    let e = eq-eqb _ _ c.if-buf-i.true in
    sym (look _ l.i _ _ (omega arith) (omega arith) ∙ rw e) ∙ l.invariant

pub loop-i-preserved : goal.loop-i-preserved
loop-i-preserved c =
    let l = c.loop-i in
    let e = ne_eqb _ _ c.if-buf-i.false in
    sym (look _ l.i _ _ (omega arith) (omega arith) ∙ rw e) ∙ l.invariant

pub returns : goal.returns
returns c =
    sym (look-out _ c.loop-i.i _ _ (omega arith)) ∙ c.loop-i.invariant
