use Rattle.std.proofs.Common.{◌≡◌, ◌+◌, ◌*◌}
use Rattle.mapper_stores.specs.Stores.{held, store_in_lem}
use Rattle.mapper_stores.proofs.+stores.Given as goal

abbrev pub decreases-store_at : goal.decreases-store_at
decreases-store_at l = 2 * l.height

abbrev pub decreases-store_in : goal.decreases-store_in
decreases-store_in l = 2 * l.height + 1

abbrev pub invariant-store_in-loop-j : goal.invariant-store_in-loop-j
invariant-store_in-loop-j l =
    held l.arena l.image ≡ store_in_lem l.q l.first l.height l.e l.at l.j (held l.initial.arena l.initial.image)
