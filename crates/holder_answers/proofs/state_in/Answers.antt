use Rattle.holder_answers.proofs.Serving.{gathered}
use Rattle.holder_answers.proofs.state_in.Goals as goal

pub returns : goal.returns
returns c =
    gathered _ _ _ c.register_in-register.ensures
