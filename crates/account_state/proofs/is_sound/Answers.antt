use mathlib.Core.Path.{sym, ◌∙◌}
use Rattle.account_state.proofs.Ways.{passed_on, not-passed}
use Rattle.account_state.proofs.is_sound.Goals as goal

pub returns-then-is_sound : goal.returns-then-is_sound
returns-then-is_sound c =
    passed_on _ _ _ (sym c.is_sound.ensures ∙ c.if-is_sound.true) c.is_low_sound.ensures

pub returns : goal.returns
returns c =
    not-passed _ _ (sym c.is_sound.ensures ∙ c.if-is_sound.false)
