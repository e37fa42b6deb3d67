use lib.Dec.{lit≤}
use Rattle.pool_state.specs.Shown.{pool}
use Rattle.script_answers.proofs.Replies.{request-says}
use Rattle.script_answers.proofs.answer_request.Goals as goal

pub returns : goal.returns
returns c =
    let served = c in
    let lent = served in
    let start = lent in
    request-says pool (lit≤ tt) _ start.requires start.args.request _ _ served.serve_in-answer.ensures _ _ _ _ c.put_reply.ensures
