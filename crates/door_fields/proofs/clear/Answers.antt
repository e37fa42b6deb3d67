use mathlib.Core.Path.{ap}
use Rattle.rules_lowest.specs.Lowest.{never}
use Rattle.pool_state.specs.Shown.{pool}
use Rattle.pool_state.specs.declared.MemoryAllocator.{MemoryAllocator}
use Rattle.pool_state.proofs.States.{fresh-state}
use Rattle.account_state.specs.Account.{account}
use Rattle.door_fields.proofs.clear.Goals as goal

pub returns : goal.returns
returns c =
    ap (λ (s : MemoryAllocator). account s never) (fresh-state pool)
