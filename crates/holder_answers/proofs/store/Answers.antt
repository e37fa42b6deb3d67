use Rattle.holder_answers.proofs.Serving.{scattered}
use Rattle.holder_answers.proofs.store.Goals as goal

pub returns : goal.returns
returns c =
    scattered _ _ c.words_of.ensures
