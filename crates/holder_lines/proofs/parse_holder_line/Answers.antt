use mathlib.Core.Path.{◌≡◌, refl, sym, ◌∙◌}
use mathlib.Core.List.{List, [], ◌∷◌}
use Prim.Native.Nat.{ℕ}
use native.Mathlib.Omega.{arith}
use Rattle.holder_lines.specs.Lines.{said}
use Rattle.holder_lines.specs.declared.HolderLine.TheVariants.{Bad}
use Rattle.script_lines.proofs.Reading.{too_long, no_bytes, one_byte, no-space, one-letter}
use Rattle.holder_lines.proofs.parse_holder_line.Goals as goal

no-letter : (ns : List ℕ) → (said 0 ns ≡ Bad) × (said 32 ns ≡ Bad)
unfolding said
no-letter [] = (refl, refl)
no-letter (x ∷ []) = (refl, refl)
no-letter (x ∷ y ∷ []) = (refl, refl)
no-letter (x ∷ y ∷ z ∷ []) = (refl, refl)
no-letter (x ∷ y ∷ z ∷ w ∷ []) = (refl, refl)
no-letter (x ∷ y ∷ z ∷ w ∷ v ∷ ns) = (refl, refl)

pub returns-then-line-gt-LONGEST : goal.returns-then-line-gt-LONGEST
returns-then-line-gt-LONGEST c =
    sym (too_long said Bad c.args.line.now (omega arith))

pub returns-then-line-eq0 : goal.returns-then-line-eq0
returns-then-line-eq0 c =
    sym (no_bytes said Bad no-letter c.args.line.now c.if-line-eq0.true)

pub returns-then-line-eq1 : goal.returns-then-line-eq1
returns-then-line-eq1 c =
    c.unwrap_or.ensures ∙ c.with_none.ensures ∙ sym (one_byte said Bad no-letter c.args.line.now c.if-line-eq1.true)

pub returns-then-line-ne32 : goal.returns-then-line-ne32
returns-then-line-ne32 c =
    sym (no-space said Bad no-letter c.args.line.now (omega arith) (omega arith) c.if-line-ne32.true)

pub returns : goal.returns
returns c =
    c.unwrap_or-2.ensures ∙ c.with_fields.ensures ∙ sym (one-letter said Bad no-letter c.args.line.now (omega arith) (omega arith) c.if-line-ne32.false)
