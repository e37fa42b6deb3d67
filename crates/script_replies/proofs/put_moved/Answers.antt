use Rattle.script_replies.proofs.Texts.{moved-no, moved_ok}
use Rattle.script_replies.proofs.put_moved.Goals as goal

pub returns-then-number-ne0 : goal.returns-then-number-ne0
returns-then-number-ne0 c =
    let n = c in
    moved-no _ _ n.number_of-number.ensures _ _ _ _ c.if-number-ne0.true c.put_no.ensures

pub returns : goal.returns
returns c =
    let n = c in
    moved_ok _ _ n.number_of-number.ensures _ _ _ _ c.if-number-ne0.false c.put_ok.ensures
