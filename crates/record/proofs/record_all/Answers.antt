use Rattle.std.proofs.Common.{arith}
use Rattle.journal_prints.proofs.Lines.{within}
use Rattle.record.proofs.record_all.Goals as goal

pub loop-init : goal.loop-init
loop-init c = record { held = omega arith; at = within _ _ 0 _ _ (omega arith) c.begin-first.ensures }
