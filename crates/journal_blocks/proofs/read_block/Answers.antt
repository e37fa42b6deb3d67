use Rattle.journal_blocks.proofs.Ways.{past_end, rest_read}
use Rattle.journal_blocks.proofs.read_block.Goals as goal

pub returns-then-journal-at : goal.returns-then-journal-at
returns-then-journal-at c =
    past_end _ _ c.if-journal-at.true

pub returns : goal.returns
returns c =
    rest_read c.args.journal.now _ _ c.read_front.ensures
