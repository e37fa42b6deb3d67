use mathlib.Core.Path.{sym, ◌∙◌}
use Rattle.pool_state.specs.Shown.{pool}
use Rattle.account_calls.specs.Accounts.{total_of}
use Rattle.image_parts.specs.Layout.{current}
use Rattle.image_parts.proofs.Lawful.{lawful-current}
use Rattle.door_accounts.proofs.Ways.{unreadable-total, total-in}
use Rattle.door_accounts.proofs.cinghjalofa_total.Goals as goal

pub read_current-readable-requires : goal.read_current-readable-requires
read_current-readable-requires c =
    c.new-ranges.ensures

pub returns-then-readable : goal.returns-then-readable
returns-then-readable c =
    let read = c.read_current-readable.ensures in
    total-in current _ lawful-current (sym read.told ∙ c.if-readable.true) _ (read.state c.if-readable.true) _

pub returns : goal.returns
returns c =
    unreadable-total current _ (sym c.read_current-readable.ensures.told ∙ c.if-readable.false) (total_of pool) _
