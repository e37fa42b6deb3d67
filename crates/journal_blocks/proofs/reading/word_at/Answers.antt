use Prim.Native.Nat.{◌+◌, ◌*◌}
use native.Mathlib.Omega.{arith}
use Rattle.image_parts.proofs.Loops.{part_length, part-read}
use Rattle.journal_blocks.proofs.reading.word_at.Goals as goal

pub read_be-requires : goal.read_be-requires
read_be-requires c =
    let s = c in omega (arith, part_length s.args.block.now (3 + 8 * s.args.j) 8 s.requires)

pub returns : goal.returns
returns c =
    let s = c in part-read s.args.block.now (3 + 8 * s.args.j) 8 s.requires _ c.read_be.ensures.value
