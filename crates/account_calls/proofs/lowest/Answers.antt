use mathlib.Core.Path.{sym, ◌∙◌}
use Rattle.pool_state.specs.Shown.{pool}
use Rattle.account_calls.proofs.Shows.{lowest-sound, lowest-unsound}
use Rattle.account_calls.proofs.lowest.Goals as goal

pub returns-then-is_sound : goal.returns-then-is_sound
returns-then-is_sound c =
    lowest-sound pool _ (sym c.is_sound.ensures ∙ c.if-is_sound.true)

pub returns : goal.returns
returns c =
    lowest-unsound pool _ (sym c.is_sound.ensures ∙ c.if-is_sound.false)
