use Rattle.journal_prints.proofs.Lines.{within}
use Rattle.record.proofs.tape_line.Goals as goal

pub returns-in-Asks : goal.returns-in-Asks
returns-in-Asks c = within _ _ _ _ _ c.requires c.write_block-next.ensures
