use Rattle.std.proofs.Common.{lit≤}
use Rattle.pool_state.specs.Shown.{pool}
use Rattle.pool_state.proofs.States.{fresh-state}
use Rattle.journal_audit.proofs.Ways.{begun-sound}
use Rattle.audit.proofs.audit_from.Goals as goal

pub audit_all-requires-clause-fields : goal.audit_all-requires-clause-fields
audit_all-requires-clause-fields c = begun-sound pool (lit≤ tt) _ (fresh-state pool)
