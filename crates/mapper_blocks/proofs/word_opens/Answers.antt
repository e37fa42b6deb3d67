use mathlib.Core.Path.{◌∙◌}
use Rattle.mapper_blocks.proofs.Blocks.{opens-met, opens_not}
use Rattle.mapper_blocks.proofs.word_opens.Goals as goal

pub returns-then-word_meets : goal.returns-then-word_meets
returns-then-word_meets c =
    opens-met c.args.q _ _ _ c.requires c.word_meets.ensures _ c.word_fits.ensures c.if-word_meets.true

pub returns-else-word_meets : goal.returns-else-word_meets
returns-else-word_meets c =
    c.if-word_meets.false ∙ opens_not c.args.q _ _ _ c.requires c.word_meets.ensures c.if-word_meets.false
