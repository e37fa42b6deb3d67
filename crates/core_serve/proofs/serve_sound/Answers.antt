use lib.Dec.{lit≤}
use Rattle.rules.specs.Rules.{step}
use Rattle.pool_state.specs.Shown.{pool}
use Rattle.calls.specs.Calls.{call_of}
use Rattle.check_meaning.proofs.Owned.{owned-sized}
use Rattle.core_serve.proofs.Judged.{book-held, sound-judged}
use Rattle.core_serve.proofs.serve_sound.Goals as goal

pub serve_fields-answer-requires : goal.serve_fields-answer-requires
serve_fields-answer-requires c =
    (_, book-held pool (lit≤ tt) _ (owned-sized _ _ c.well_formed.0) c.requires)

pub returns : goal.returns
returns c =
    sound-judged pool (lit≤ tt) _ (step pool (call_of c.args.request)) _ (owned-sized _ _ c.well_formed.0) c.requires c.serve_fields-answer.ensures.does
