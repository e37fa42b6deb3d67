use Rattle.journal_blocks.proofs.Laid.{entry-put}
use Rattle.journal_blocks.proofs.write_block.Goals as goal

pub returns-in-Allocate : goal.returns-in-Allocate
returns-in-Allocate c =
    entry-put c.args.entry _ _ _ _ _ c.in-Allocate.is c.put_block.ensures

pub returns-in-Reserve : goal.returns-in-Reserve
returns-in-Reserve c =
    entry-put c.args.entry _ _ _ _ _ c.in-Reserve.is c.put_block-in-Reserve.ensures

pub returns-in-Free : goal.returns-in-Free
returns-in-Free c =
    entry-put c.args.entry _ _ _ _ _ c.in-Free.is c.put_block-in-Free.ensures
