use Rattle.std.proofs.Common.{◌-◌, ◌^◌}
use Rattle.mapper_laws.specs.Mapping.{low_bits}
use Rattle.mapper_words.proofs.Leaves.{leaf-sum}
use Rattle.mapper_words.proofs.leaf_word.Goals as goal

pub returns : goal.returns
returns c =
    let q = c.args.q in
    leaf-sum (2 ^ 64) q.out (c.args.e - q.from) q.permission (low_bits c.args.height)
    c.saturating_sub.ensures
    c.low_bits.ensures
    c.wrapping_add_u64-output.ensures.value
    c.wrapping_add_u64-below.ensures.value
    c.wrapping_add_u64.ensures.value
