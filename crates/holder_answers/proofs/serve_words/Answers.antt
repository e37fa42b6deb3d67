use lib.Dec.{lit≤}
use Rattle.pool_state.specs.Shown.{pool}
use Rattle.holder_answers.proofs.Serving.{passes-as, stored}
use Rattle.holder_answers.proofs.serve_words.Goals as goal

pub serve_holder_sound-served-requires : goal.serve_holder_sound-served-requires
serve_holder_sound-served-requires c =
    passes-as pool (lit≤ tt) _ _ c.state_in-s.ensures c.requires

pub returns : goal.returns
returns c =
    stored pool _ _ _ c.args.request _ c.state_in-s.ensures c.serve_holder_sound-served.ensures c.store.ensures
