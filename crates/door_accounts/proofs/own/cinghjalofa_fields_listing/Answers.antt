use mathlib.Core.Path.{sym, ◌∙◌}
use lib.Dec.{lit≤}
use mir.Syntax.{w64}
use mir.Facts.{to_z-of_z}
use Rattle.pool_state.specs.Shown.{pool}
use Rattle.check_meaning.proofs.Owned.{owned-sized}
use Rattle.core_accounts.proofs.Shows.{ordered}
use Rattle.door_accounts.proofs.Ways.{ranges-on, lists-here, no-lists, copied-sized}
use Rattle.door_accounts.proofs.own.cinghjalofa_fields_listing.Goals as goal

pub list_signed-requires : goal.list_signed-requires
list_signed-requires c =
    let here = c in
    let checked = here in
    let copied = checked in
    let sized = copied-sized pool _ _ copied.state_of-places.ensures (owned-sized _ _ copied.state_of-places.type_inv) in
    (_, ordered pool (lit≤ tt) _ sized (ranges-on pool (lit≤ tt) _ sized (sym checked.is_sound_account-checked.ensures ∙ here.if-checked.true)))

pub returns-then-checked : goal.returns-then-checked
returns-then-checked c =
    let listed = c in
    let here = listed in
    let checked = here in
    let copied = checked in
    let sized = copied-sized pool _ _ copied.state_of-places.ensures (owned-sized _ _ copied.state_of-places.type_inv) in
    let on = sym checked.is_sound_account-checked.ensures ∙ here.if-checked.true in
    lists-here pool (lit≤ tt) _ sized on _ _ _ _ _ _ (to_z-of_z {w = w64} (record { sfits = listed.list_signed.type_inv })) (listed.list_signed.ensures _ (ordered pool (lit≤ tt) _ sized (ranges-on pool (lit≤ tt) _ sized on)))

pub returns : goal.returns
returns c =
    no-lists pool (lit≤ tt) _ (sym c.is_sound_account-checked.ensures ∙ c.if-checked.false) _ _
