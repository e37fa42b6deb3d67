use mathlib.Core.Path.{sym, ◌∙◌}
use lib.Dec.{lit≤}
use Rattle.pool_state.specs.Shown.{pool}
use Rattle.check_meaning.proofs.Owned.{owned-sized}
use Rattle.door_accounts.proofs.Ways.{total_here, no-total, copied-sized}
use Rattle.door_accounts.proofs.own.cinghjalofa_fields_total.Goals as goal

pub returns-then-sound : goal.returns-then-sound
returns-then-sound c =
    let checked = c in
    let copied = checked in
    total_here pool (lit≤ tt) _ (copied-sized pool _ _ copied.state_of-places.ensures (owned-sized _ _ copied.state_of-places.type_inv)) (sym checked.is_sound_account-sound.ensures ∙ c.if-sound.true) _

pub returns : goal.returns
returns c =
    no-total pool (lit≤ tt) _ (sym c.is_sound_account-sound.ensures ∙ c.if-sound.false) _
