use Prim.Native.Nat.{◌-◌}
use Rattle.pool_state.specs.Shown.{pool}
use Rattle.pool_chain.specs.Chain.{StartsBelow}
use Rattle.pool_chain.proofs.nearest_below.Given as goal

abbrev pub invariant-loop-k : goal.invariant-loop-k
invariant-loop-k l =
    StartsBelow pool l.start l.address.0 l.nearest.0

abbrev pub decreases-loop-k : goal.decreases-loop-k
decreases-loop-k l =
    pool - l.k
