use Rattle.pool_state.specs.Shown.{pool}
use Rattle.pool_state.proofs.States.{fresh-state}
use Rattle.pool_state.proofs.new.Goals as goal

pub returns : goal.returns
returns c =
    fresh-state pool
