use Rattle.std.proofs.Common.{false, ◌≡◌, ◌+◌, ◌*◌}
use Rattle.mapper_blocks.specs.Blocks.{blocked_in}
use Rattle.mapper_blocks.proofs.+blocks.Given as goal

abbrev pub decreases-block_at : goal.decreases-block_at
decreases-block_at l = 2 * l.height

abbrev pub decreases-block_in : goal.decreases-block_in
decreases-block_in l = 2 * l.height + 1

abbrev pub invariant-block_in-loop-j : goal.invariant-block_in-loop-j
invariant-block_in-loop-j l = false ≡ blocked_in l.q l.first l.arena l.height l.e l.at l.j
