use mathlib.Core.Path.{sym, ◌∙◌}
use Rattle.pool_state.specs.Shown.{pool}
use Rattle.account_calls.specs.Accounts.{lowest_of}
use Rattle.image_parts.specs.Layout.{current}
use Rattle.image_parts.proofs.Lawful.{lawful-current}
use Rattle.door_accounts.proofs.Ways.{unreadable-total, lowest-in}
use Rattle.door_accounts.proofs.cinghjalofa_lowest.Goals as goal

pub read_current-serves-requires : goal.read_current-serves-requires
read_current-serves-requires c =
    c.new-ranges.ensures

pub returns-then-serves : goal.returns-then-serves
returns-then-serves c =
    let read = c.read_current-serves.ensures in
    lowest-in current _ lawful-current (sym read.told ∙ c.if-serves.true) _ (read.state c.if-serves.true) _

pub returns : goal.returns
returns c =
    unreadable-total current _ (sym c.read_current-serves.ensures.told ∙ c.if-serves.false) (lowest_of pool) _
