use native.Mathlib.Omega.{arith}
use lib.Dec.{lit≤}
use Rattle.pool_state.specs.Shown.{pool}
use Rattle.pool_state.proofs.States.{fresh-state}
use Rattle.journal_audit.proofs.Ways.{begun-sound, replayed-all}
use Rattle.journal_audit.proofs.replay.Goals as goal

pub audit_part-done-requires : goal.audit_part-done-requires
audit_part-done-requires c =
    let made = c in
    let s = made in
    record { fields = begun-sound pool (lit≤ tt) _ (fresh-state pool); part_bound = omega (arith, s.well_formed) }

pub returns : goal.returns
returns c =
    let made = c in
    let s = made in
    replayed-all pool s.args.blocks.now _ (fresh-state pool) _ c.audit_part-done.ensures _ c.verdict_of.ensures
