use mathlib.Core.Path.{sym, ◌∙◌}
use lib.Dec.{lit≤}
use Rattle.pool_state.specs.Shown.{pool}
use Rattle.door_lists.proofs.Ways.{held-here, list-unsound, list-unfitted, list_done}
use Rattle.door_lists.proofs.cinghjalofa_fields_batch.Goals as goal

pub serve_list_in-requires : goal.serve_list_in-requires
serve_list_in-requires c =
    let lent = c in
    let fitting = lent in
    let tested = fitting in
    let here = tested in
    record { sound_in = held-here pool (lit≤ tt) _ (sym here.is_sound_lent.ensures ∙ here.if-is_sound_lent.true); answers_value = sym tested.list_fits.ensures ∙ fitting.if-list_fits.true }

pub returns-then-list_fits : goal.returns-then-list_fits
returns-then-list_fits c =
    let served = c in
    let lent = served in
    let fitting = lent in
    let tested = fitting in
    let here = tested in
    let on = sym here.is_sound_lent.ensures ∙ here.if-is_sound_lent.true in
    list_done pool _ _ _ on (sym tested.list_fits.ensures ∙ fitting.if-list_fits.true) _ _ served.serve_list_in.ensures

pub returns-then-is_sound_lent : goal.returns-then-is_sound_lent
returns-then-is_sound_lent c =
    let tested = c in
    let here = tested in
    list-unfitted pool _ _ _ (sym here.is_sound_lent.ensures ∙ here.if-is_sound_lent.true) (sym tested.list_fits.ensures ∙ c.if-list_fits.false)

pub returns : goal.returns
returns c =
    list-unsound pool _ _ _ (sym c.is_sound_lent.ensures ∙ c.if-is_sound_lent.false)
