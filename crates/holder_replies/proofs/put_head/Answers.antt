use native.Mathlib.Omega.{arith}
use Rattle.holder_replies.proofs.Tables.{head_puts}
use Rattle.holder_replies.proofs.put_head.Goals as goal

pub returns : goal.returns
returns c =
    let s = c in head_puts s.args.count s.args.bytes _ _ _ _ _ _ (omega arith) (omega arith) s.requires c.put_bytes-next.ensures c.put_range.ensures
