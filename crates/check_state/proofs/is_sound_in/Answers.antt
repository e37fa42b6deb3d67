use mathlib.Core.Path.{sym, ◌∙◌}
use Rattle.check_state.proofs.Whole.{sound-broken}
use Rattle.check_state.proofs.is_sound_in.Goals as goal

pub returns-in_default : goal.returns-in_default
returns-in_default c =
    sym (sound-broken _ _ (sym c.tally_records.ensures ∙ c.in_default.is))

pub links_ok-requires : goal.links_ok-requires
links_ok-requires c =
    sym c.tally_records.ensures ∙ c.in-Some.is
