use Rattle.std.proofs.Common.{sym, ◌∙◌, arith}
use Rattle.pool_state.specs.Shown.{pool}
use Rattle.script_chunks.proofs.Hearing.{end-within}
use Rattle.record.proofs.tape_next.Goals as goal

pub tape_ended-requires : goal.tape_ended-requires
tape_ended-requires c =
    let w = end-within pool c.args.chunk.now _ _ (omega arith) (sym c.in-Some.is ∙ c.find_newline.ensures) in
    (c.requires.0, w.0, w.1)
