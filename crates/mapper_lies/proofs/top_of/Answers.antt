use native.Mathlib.Omega.{arith}
use Rattle.mapper_lies.proofs.Tops.{small_top, is-top}
use Rattle.mapper_lies.proofs.top_of.Goals as goal

-- src/lib.rt:47:27
pub overflow_sub-result : goal.overflow_sub-result
overflow_sub-result c =
    let s = (small_top _ _ c.requires).shift in omega arith

-- src/lib.rt:36:1
pub returns : goal.returns
returns c =
    is-top c.args.vttbr c.args.vtcr c.requires _ c.top_bytes-bytes.ensures
