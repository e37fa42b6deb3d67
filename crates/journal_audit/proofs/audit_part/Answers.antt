use native.Mathlib.Omega.{arith}
use lib.Dec.{lit≤}
use Rattle.pool_state.specs.Shown.{pool}
use Rattle.journal_audit.proofs.Underway.{underway-start, underway-goes, underway-ends}
use Rattle.journal_audit.proofs.audit_part.Goals as goal

pub loop-stand-init : goal.loop-stand-init
loop-stand-init c =
    underway-start pool c.args.part.now _ c.requires.fields

pub audit_block-stand-requires : goal.audit_block-stand-requires
audit_block-stand-requires c =
    let g = c.loop-stand.invariant in record { fields = g.sound; index_bound = omega (arith, g.index, g.used, c.requires.part_bound) }

pub returns-then-stand-at : goal.returns-then-stand-at
returns-then-stand-at c =
    underway-ends pool (lit≤ tt) _ _ _ c.loop-stand.invariant _ c.audit_block-stand.ensures c.if-stand-at.true

pub loop-stand-smaller : goal.loop-stand-smaller
loop-stand-smaller c =
    let g = underway-goes pool (lit≤ tt) _ _ _ c.loop-stand.invariant _ c.audit_block-stand.ensures c.if-stand-at.false in
    omega (arith, g.used, c.if-stand-at.false)

pub loop-stand-preserved : goal.loop-stand-preserved
loop-stand-preserved c =
    underway-goes pool (lit≤ tt) _ _ _ c.loop-stand.invariant _ c.audit_block-stand.ensures c.if-stand-at.false
