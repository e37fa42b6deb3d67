-- `parse::with_digit` meets its contract.
-- Assumes nothing.
use mathlib.Core.Path.{◌≡◌, sym, ◌∙◌}
use mathlib.Core.Bool.{true, false}
use Prim.Native.Nat.{◌+◌, ◌-◌, ◌*◌, ◌^◌}
use native.Mathlib.Omega.{arith}
use borrow.Author.Tests.{le-ltb}
use Rattle.script_lines.specs.Fields.{digit, digits, value}
use Rattle.script_lines.specs.Steps.{value_from}
use Rattle.script_lines.proofs.Numbers.{fitting}
use Rattle.script_lines.proofs.parse.with_digit.Goals as goal

pub returns-then-not-is_ascii_digit : goal.returns-then-not-is_ascii_digit
unfolding value_from digits value
returns-then-not-is_ascii_digit c =
    let no : digit c.args.byte ≡ false = sym (c.if-not-is_ascii_digit.ensures.value) in
    rw no

pub returns-in_err-checked_mul : goal.returns-in_err-checked_mul
unfolding value_from digits value
returns-in_err-checked_mul c =
    let b = c.args.byte in
    let n = c.args.n in
    let is : digit b ≡ true = sym (c.if-not-is_ascii_digit.ensures.value) in
    c.from_residual.ensures ∙ rw (is, le-ltb (n * 10 + (b - 48)) (2 ^ 64) (omega (arith, c.in_err-checked_mul.ensures)))

pub returns : goal.returns
returns c =
    fitting c.args.n c.args.byte c.checked_add.result (sym c.if-not-is_ascii_digit.ensures.value) (rw c.in_ok-checked_mul.ensures.1 at c.checked_add.ensures)
