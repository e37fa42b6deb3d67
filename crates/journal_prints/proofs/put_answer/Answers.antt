use Rattle.journal_prints.proofs.Lines.{within}
use Rattle.journal_prints.proofs.put_answer.Goals as goal

pub returns-then-bits-lt9223372036854775808 : goal.returns-then-bits-lt9223372036854775808
returns-then-bits-lt9223372036854775808 c = within _ _ _ _ _ (within _ _ _ _ _ c.requires c.put_number-end.ensures) c.put_bytes.ensures

pub returns : goal.returns
returns c =
    within _ _ _ _ _ (within _ _ _ _ _ (within _ _ _ _ _ c.requires c.put_bytes-sign.ensures) c.put_number-end-2.ensures) c.put_bytes-2.ensures
