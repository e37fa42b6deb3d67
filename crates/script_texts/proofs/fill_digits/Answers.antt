-- `print::fill_digits` meets its contract. The invariant: the digits still to be written, before those that are written, are the digits of n.
-- Assumes nothing.
use mathlib.Core.Path.{◌≡◌, refl, ◌∙◌}
use mathlib.Core.List.{append-nil}
use native.Mathlib.Omega.{arith}
use lib.ListN.{length-set}
use lib.Seq.{drop-length}
use Rattle.script_texts.proofs.Decimal.{one-long, longer-by-one, some-digit, put-before, put_first}
use Rattle.script_texts.proofs.fill_digits.Goals as goal

pub loop-rest-init : goal.loop-rest-init
loop-rest-init c =
    (c.requires, (omega arith, (refl, rw (drop-length, append-nil))))

pub overflow_sub-i : goal.overflow_sub-i
overflow_sub-i c =
    omega (arith, some-digit c.loop-rest.rest)

pub bounds-part-i : goal.bounds-part-i
bounds-part-i c =
    omega (arith, some-digit c.loop-rest.rest)

pub loop-rest-preserved : goal.loop-rest-preserved
loop-rest-preserved c =
    let l = c.loop-rest in
    let s = some-digit l.rest in (
      omega (arith, longer-by-one l.rest (omega arith)),
      (simp length-set (omega arith), (simp length-set (omega arith), put-before l.i l.rest l.part (omega arith) (omega arith) (omega arith) ∙ l.invariant.1.1.1)),
    )

pub bounds-part-0 : goal.bounds-part-0
bounds-part-0 c =
    omega (arith, some-digit c.loop-rest.rest)

pub shape_of-part : goal.shape_of-part
shape_of-part c =
    simp length-set (omega arith)

pub returns : goal.returns
returns c =
    let l = c.loop-rest in
    let e : l.i ≡ 1 = omega (arith, one-long l.rest (omega arith)) in
    put_first l.rest l.part (omega arith) (omega arith) ∙ rw e at l.invariant.1.1.1
