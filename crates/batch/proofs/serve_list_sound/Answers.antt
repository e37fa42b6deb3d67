use lib.Dec.{lit≤}
use Rattle.pool_state.specs.Shown.{pool}
use Rattle.account_state.proofs.Exact.{passes-sound}
use Rattle.check_meaning.proofs.Owned.{owned-sized}
use Rattle.batch.proofs.serve_list_sound.Goals as goal

pub serve_list_in-requires : goal.serve_list_in-requires
serve_list_in-requires c =
    let lent = c in
    let start = lent in
    record { sound_in = passes-sound pool (lit≤ tt) _ (owned-sized _ _ start.well_formed.0.1.1.0) start.requires.a_value; answers_value = start.requires.answers_value }
