use mathlib.Core.Path.{◌≡◌, ◌∙◌, ap}
use mathlib.Core.List.{List}
use Prim.Native.Nat.{ℕ}
use borrow.Author.Tests.{eq-eqb, ne_eqb}
use Rattle.script_forms.specs.Forms.{same}
use Rattle.script_forms.proofs.Same.{by_bytes}
use Rattle.script_forms.proofs.begins_register.Goals as goal

pub returns-then-forms-eq-OPEN : goal.returns-then-forms-eq-OPEN
returns-then-forms-eq-OPEN c =
    rw (eq-eqb _ 0 c.if-forms-eq-OPEN.true) (c.eq.ensures ∙ by_bytes c.args.line.now c.as_slice.result.now ∙ ap (λ (l : List ℕ). same c.args.line.now l) c.as_slice.ensures)

pub returns : goal.returns
returns c =
    rw (ne_eqb _ 0 c.if-forms-eq-OPEN.false)
