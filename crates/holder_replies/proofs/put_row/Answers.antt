use native.Mathlib.Omega.{arith}
use Rattle.holder_replies.proofs.Tables.{row-puts}
use Rattle.holder_replies.proofs.put_row.Goals as goal

pub returns : goal.returns
returns c =
    let s = c in row-puts s.args.holder s.args.start s.args.last _ _ _ _ _ _ _ _ (omega arith) (omega arith) (omega arith) s.requires c.put_number-gap.ensures c.put_bytes-next.ensures c.put_range.ensures
