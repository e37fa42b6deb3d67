use Rattle.rules.specs.Rules.{step}
use Rattle.account_calls.proofs.reserve_memory.Goals as goal

pub returns : goal.returns
unfolding step
returns c =
    c.serve.ensures
