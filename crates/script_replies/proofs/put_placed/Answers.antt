use native.Mathlib.Omega.{arith}
use Rattle.script_replies.proofs.Texts.{placed-no, placed-ok}
use Rattle.script_replies.proofs.put_placed.Goals as goal

pub returns-then-number-ne0 : goal.returns-then-number-ne0
returns-then-number-ne0 c =
    let n = c in
    placed-no _ _ n.number_of-number.ensures _ _ _ _ c.if-number-ne0.true c.put_no.ensures

pub returns : goal.returns
returns c =
    let at-address-of = c in
    let at-if1 = at-address-of in
    let n = c in
    placed-ok _ _ n.number_of-number.ensures _ _ _ _ _ (omega arith) at-address-of.address_of.ensures at-if1.if-number-ne0.false c.put_ok_at.ensures
