use Rattle.rules.specs.Rules.{step}
use Rattle.account_calls.proofs.allocate.Goals as goal

pub returns : goal.returns
unfolding step
returns c =
    c.serve.ensures
