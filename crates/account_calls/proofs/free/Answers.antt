use Rattle.rules.specs.Rules.{step}
use Rattle.account_calls.proofs.free.Goals as goal

pub returns : goal.returns
unfolding step
returns c =
    c.serve.ensures
