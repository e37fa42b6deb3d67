use mathlib.Core.Path.{sym, ◌∙◌}
use lib.Dec.{lit≤}
use Rattle.pool_state.specs.Shown.{pool}
use Rattle.core_serve.proofs.Judged.{unsound-judged}
use Rattle.core_serve.proofs.serve.Goals as goal

pub serve_sound-requires : goal.serve_sound-requires
serve_sound-requires c =
    sym c.is_sound.ensures ∙ c.if-is_sound.true

pub returns : goal.returns
returns c =
    unsound-judged pool (lit≤ tt) _ _ (sym c.is_sound.ensures ∙ c.if-is_sound.false)
