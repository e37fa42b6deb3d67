use mathlib.Core.Path.{ap}
use Rattle.rules_lowest.specs.Lowest.{never}
use Rattle.pool_state.specs.declared.MemoryAllocator.{MemoryAllocator}
use Rattle.account_state.specs.Account.{account}
use Rattle.account_calls.proofs.new.Goals as goal

pub returns : goal.returns
returns c =
    ap (λ (s : MemoryAllocator). account s never) c.new-ranges.ensures
