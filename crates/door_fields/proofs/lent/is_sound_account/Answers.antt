use mathlib.Core.Path.{sym, ◌∙◌}
use Rattle.account_state.proofs.Ways.{passed_on, not-passed}
use Rattle.door_fields.proofs.lent.is_sound_account.Goals as goal

pub returns-then-is_sound_in : goal.returns-then-is_sound_in
returns-then-is_sound_in c =
    passed_on _ _ _ (sym c.is_sound_in.ensures ∙ c.if-is_sound_in.true) c.is_low_sound.ensures

pub returns : goal.returns
returns c =
    not-passed _ _ (sym c.is_sound_in.ensures ∙ c.if-is_sound_in.false)
