use Rattle.std.proofs.Common.{arith}
use Rattle.journal_prints.proofs.Lines.{within}
use Rattle.journal_prints.proofs.put_call.Goals as goal

pub put_field-second-requires : goal.put_field-second-requires
put_field-second-requires c = within _ _ 0 _ _ (omega arith) c.put_bytes-first.ensures

pub put_field-second-requires-in-Reserve : goal.put_field-second-requires-in-Reserve
put_field-second-requires-in-Reserve c = within _ _ 0 _ _ (omega arith) c.put_bytes-first-in-Reserve.ensures

pub put_field-second-requires-in-Free : goal.put_field-second-requires-in-Free
put_field-second-requires-in-Free c = within _ _ 0 _ _ (omega arith) c.put_bytes-first-in-Free.ensures
