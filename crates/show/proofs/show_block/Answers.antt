use Rattle.show.proofs.Showed.{goes}
use Rattle.show.proofs.show_block.Goals as goal

pub returns-else-not-print_entry : goal.returns-else-not-print_entry
returns-else-not-print_entry c = goes c.args.part.now c.args.s _ c.read_block.ensures _ _ c.in-Call.is c.requires.0
