use mathlib.Core.Path.{sym, ◌∙◌}
use lib.Dec.{lit≤}
use Rattle.pool_state.specs.Shown.{pool}
use Rattle.door_accounts.proofs.Ways.{lowest-here, no-lowest}
use Rattle.door_accounts.proofs.own.cinghjalofa_fields_lowest.Goals as goal

pub returns-then-passed : goal.returns-then-passed
returns-then-passed c =
    lowest-here pool (lit≤ tt) _ (sym c.is_sound_account-passed.ensures ∙ c.if-passed.true) _

pub returns : goal.returns
returns c =
    no-lowest pool (lit≤ tt) _ (sym c.is_sound_account-passed.ensures ∙ c.if-passed.false) _
