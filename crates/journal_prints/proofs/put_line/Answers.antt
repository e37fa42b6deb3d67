use Rattle.std.proofs.Common.{arith}
use Rattle.journal_prints.proofs.Lines.{within}
use Rattle.journal_prints.proofs.put_line.Goals as goal

pub returns : goal.returns
returns c = within _ _ _ _ _ (within _ _ _ _ _ (within _ _ 0 _ _ (omega arith) c.put_bytes-first.ensures) c.put_number-last.ensures) c.put_bytes.ensures
