use mathlib.Core.Path.{sym, ◌∙◌}
use lib.Dec.{lit≤}
use Rattle.pool_state.specs.Shown.{pool}
use Rattle.batch.specs.InWords.{rule_of}
use Rattle.door_fields.specs.Fields.{asked_here}
use Rattle.door_own.proofs.Own.{sound-here, unsound-here}
use Rattle.door_own.proofs.cinghjalofa_fields_call.Goals as goal

pub cinghjalofa_fields_call_unchecked-requires : goal.cinghjalofa_fields_call_unchecked-requires
cinghjalofa_fields_call_unchecked-requires c =
    let lent = c in
    let here = lent in
    sound-here pool (lit≤ tt) _ (rule_of pool (asked_here 0 0 0 0)) (sym here.is_sound_lent.ensures ∙ here.if-is_sound_lent.true)

pub returns : goal.returns
returns c =
    unsound-here pool (lit≤ tt) _ _ (sym c.is_sound_lent.ensures ∙ c.if-is_sound_lent.false)
