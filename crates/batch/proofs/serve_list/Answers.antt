use mathlib.Core.Path.{sym, ◌∙◌}
use Rattle.pool_state.specs.Shown.{pool}
use Rattle.batch.proofs.Ways.{unsound}
use Rattle.batch.proofs.serve_list.Goals as goal

pub serve_list_unchecked-requires : goal.serve_list_unchecked-requires
serve_list_unchecked-requires c =
    let tested = c in sym tested.is_sound.ensures ∙ tested.if-is_sound.true

pub returns : goal.returns
returns c =
    unsound pool _ _ _ (sym c.is_sound.ensures ∙ c.if-is_sound.false)
