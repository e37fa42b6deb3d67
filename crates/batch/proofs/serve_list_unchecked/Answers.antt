use mathlib.Core.Path.{sym, ◌∙◌}
use Rattle.pool_state.specs.Shown.{pool}
use Rattle.batch.proofs.Ways.{unfitted, done}
use Rattle.batch.proofs.serve_list_unchecked.Goals as goal

pub serve_list_sound-left-requires : goal.serve_list_sound-left-requires
serve_list_sound-left-requires c =
    let fitting = c in
    let tested = fitting in
    record { a_value = tested.requires; answers_value = sym tested.list_fits.ensures ∙ fitting.if-list_fits.true }

pub returns-then-list_fits : goal.returns-then-list_fits
returns-then-list_fits c =
    let served = c in
    let fitting = served in
    let tested = fitting in
    done pool _ _ _ tested.requires _ _ (sym tested.list_fits.ensures ∙ fitting.if-list_fits.true) served.serve_list_sound-left.ensures

pub returns : goal.returns
returns c =
    let tested = c in unfitted pool _ _ _ tested.requires (sym tested.list_fits.ensures ∙ c.if-list_fits.false)
