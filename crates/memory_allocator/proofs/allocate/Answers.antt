use Rattle.rules.specs.Rules.{step}
use Rattle.memory_allocator.proofs.allocate.Goals as goal

pub returns : goal.returns
unfolding step
returns c =
    c.serve.ensures
