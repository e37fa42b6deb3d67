use native.Mathlib.Omega.{arith}
use Rattle.script_texts.proofs.Buffers.{at-most-48}
use Rattle.script_replies.proofs.put_row.Goals as goal

pub returns : goal.returns
returns c =
    let s = c in
    record { short = (at-most-48 s.args.start s.args.last (omega arith) (omega arith)).4; puts = c.put_range.ensures }
