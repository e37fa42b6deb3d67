use mathlib.Core.Path.{sym, ◌∙◌}
use Rattle.check_records.proofs.Tests.{and-of, false-and}
use Rattle.door_fields.specs.Fields.{is_sized_lem}
use Rattle.door_fields.proofs.lent.is_sound_lent.Goals as goal

pub returns-then-is_sized : goal.returns-then-is_sized
unfolding is_sized_lem
returns-then-is_sized c =
    c.is_sound_account.ensures ∙ sym (and-of _ _ (sym c.is_sized.ensures ∙ c.if-is_sized.true))

pub returns : goal.returns
unfolding is_sized_lem
returns c =
    sym (false-and _ _ (sym c.is_sized.ensures ∙ c.if-is_sized.false))
