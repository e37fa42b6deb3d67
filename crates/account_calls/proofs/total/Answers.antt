use mathlib.Core.Path.{sym, ◌∙◌}
use lib.Dec.{lit≤}
use Rattle.pool_state.specs.Shown.{pool}
use Rattle.check_meaning.proofs.Owned.{owned-sized}
use Rattle.account_calls.proofs.Shows.{total-sound, total-unsound}
use Rattle.account_calls.proofs.total.Goals as goal

pub returns-then-is_sound : goal.returns-then-is_sound
returns-then-is_sound c =
    total-sound pool _ (lit≤ tt) (owned-sized _ _ c.well_formed.0.1.1.0) (sym c.is_sound.ensures ∙ c.if-is_sound.true)

pub returns : goal.returns
returns c =
    total-unsound pool _ (sym c.is_sound.ensures ∙ c.if-is_sound.false)
