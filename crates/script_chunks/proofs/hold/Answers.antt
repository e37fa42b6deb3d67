use Rattle.script_chunks.proofs.Carrying.{joins-put}
use Rattle.script_chunks.proofs.hold.Goals as goal

pub returns : goal.returns
returns c =
    joins-put c.args.chunk.now c.args.carry.now _ c.args.held c.args.from c.args.to _ c.requires.0 c.requires.1 c.requires.2 c.min-count.ensures c.copy_from_slice.ensures.after
