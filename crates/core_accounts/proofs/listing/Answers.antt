use mathlib.Core.Path.{sym, ◌∙◌}
use lib.Dec.{lit≤}
use Rattle.pool_state.specs.Shown.{pool}
use Rattle.check_meaning.proofs.Owned.{owned-sized}
use Rattle.core_accounts.proofs.Shows.{ordered, unsound-lists, sound-lists}
use Rattle.core_accounts.proofs.listing.Goals as goal

pub list_in-listed-requires : goal.list_in-listed-requires
list_in-listed-requires c =
    (_, ordered pool (lit≤ tt) _ (owned-sized _ _ c.well_formed.0) (sym c.is_sound.ensures ∙ c.if-is_sound.true))

pub returns-then-is_sound : goal.returns-then-is_sound
returns-then-is_sound c =
    let e = sym c.is_sound.ensures ∙ c.if-is_sound.true in
    sound-lists pool (lit≤ tt) _ _ _ _ _ _ _ e (c.list_in-listed.ensures _ (ordered pool (lit≤ tt) _ (owned-sized _ _ c.well_formed.0) e)) c.answer_listed.ensures

pub returns : goal.returns
returns c =
    unsound-lists pool (lit≤ tt) _ _ _ (sym c.is_sound.ensures ∙ c.if-is_sound.false)
