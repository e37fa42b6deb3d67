use Rattle.journal_prints.proofs.Lines.{within}
use Rattle.journal_prints.proofs.put_field.Goals as goal

pub returns : goal.returns
returns c = within _ _ _ _ _ (within _ _ _ _ _ c.requires c.put_number-end.ensures) c.put_bytes.ensures
