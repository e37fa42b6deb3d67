use Rattle.pool_state.specs.Shown.{pool}
use Rattle.holder_answers.proofs.Serving.{call-says}
use Rattle.holder_answers.proofs.answer_call.Goals as goal

pub serve_words-answer-requires : goal.serve_words-answer-requires
serve_words-answer-requires c =
    c.requires

pub returns : goal.returns
returns c =
    call-says pool _ _ _ _ _ _ _ _ c.serve_words-answer.ensures c.put_holder_reply.ensures
