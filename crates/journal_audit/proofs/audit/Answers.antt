use mathlib.Core.Bool.{not}
use mathlib.Core.Path.{ap}
use Prim.Native.Nat.{◌≤◌}
use mathlib.Core.Path.{refl}
use lib.ListN.{length}
use Rattle.pool_state.specs.Shown.{pool}
use Rattle.journal_audit.proofs.Ways.{no-version, some_byte, reported}
use Rattle.journal_audit.proofs.audit.Goals.{Else-not-has_version}
use Rattle.journal_audit.proofs.audit.Goals as goal

-- there is a version byte
byte : (c : Else-not-has_version) → 1 ≤ length c.args.journal.now
byte c = some_byte pool c.args.journal.now _ c.has_version.ensures (ap not c.if-not-has_version.false)

pub returns-then-not-has_version : goal.returns-then-not-has_version
returns-then-not-has_version c =
    no-version pool c.args.journal.now _ c.has_version.ensures (ap not c.if-not-has_version.true)

pub slice_bounds-replay-count : goal.slice_bounds-replay-count
slice_bounds-replay-count c =
    byte (goal.at.slice_bounds-replay-count c).Else-not-has_version

pub slice_bounds-replay-start : goal.slice_bounds-replay-start
slice_bounds-replay-start c =
    byte (goal.at.slice_bounds-replay-start c).Else-not-has_version

pub returns : goal.returns
returns c =
    let some = c in
    reported pool some.args.journal.now _ some.has_version.ensures (ap not some.if-not-has_version.false) _ refl _ c.replay.ensures
