use mathlib.Core.Path.{ap}
use Rattle.pool_state.specs.declared.MemoryAllocator.{MemoryAllocator}
use Rattle.holder_rules.specs.Register.{entries, blanks}
use Rattle.holder_rules.specs.Holders.{both}
use Rattle.holder_rules.specs.States.{with_register}
use Rattle.holder_rules.proofs.new.Goals as goal

pub returns : goal.returns
unfolding blanks
returns c =
    ap (λ (m : MemoryAllocator). with_register (both m (blanks entries))) c.new.ensures
