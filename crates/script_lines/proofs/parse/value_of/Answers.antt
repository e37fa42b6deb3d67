-- `parse::value_of` meets its contract. The invariant: the number from here is the whole number.
-- Assumes nothing.
use mathlib.Core.Path.{◌≡◌, sym, ◌∙◌}
use mathlib.Core.List.{[]}
use native.Mathlib.Omega.{arith}
use lib.ListN.{drop, drop_of_length-le}
use Rattle.script_lines.specs.Fields.{digits, value}
use Rattle.script_lines.specs.Steps.{value_from}
use Rattle.script_lines.proofs.Numbers.{after-taken, after-refused, all_read}
use Rattle.script_lines.proofs.parse.value_of.Goals as goal

pub returns-in_err-n : goal.returns-in_err-n
returns-in_err-n c =
    let l = c.loop-byte in
    c.from_residual.ensures ∙ sym (after-refused c.args.field.now l.byte-index l.n (omega arith) (sym c.with_digit.ensures ∙ c.in_err-n.was)) ∙ l.invariant.1

pub loop-byte-preserved : goal.loop-byte-preserved
loop-byte-preserved c =
    let l = c.loop-byte in
    let h = after-taken c.args.field.now l.byte-index l.n (omega arith) _ (sym c.with_digit.ensures ∙ c.in_ok-n.was) in
    (h.0, sym h.1 ∙ l.invariant.1)

pub returns : goal.returns
unfolding value_from digits value
returns c =
    let l = c.loop-byte in
    let none : drop l.byte-index c.args.field.now ≡ [] = drop_of_length-le _ {i = l.byte-index} (omega arith) in
    rw (none, all_read l.n l.invariant.0) at l.invariant.1
