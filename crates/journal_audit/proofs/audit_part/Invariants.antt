use Prim.Native.Nat.{◌-◌}
use lib.ListN.{length}
use Rattle.pool_state.specs.Shown.{pool}
use Rattle.pool_state.specs.State.{arrays}
use Rattle.journal_audit.specs.Audit.{audited}
use Rattle.journal_audit.proofs.Underway.{Ongoing}
use Rattle.journal_audit.proofs.audit_part.Given as goal

abbrev pub invariant-loop-stand : goal.invariant-loop-stand
invariant-loop-stand l =
    let f = l.initial in
    Ongoing pool l.part
    (record { state = arrays f.total f.first f.heads f.start f.end f.enabled f.previous f.next f.lprev f.lnext; index = l.index })
    (audited (arrays l.total l.first l.heads l.start l.end l.enabled l.previous l.next l.lprev l.lnext) l.done)

abbrev pub decreases-loop-stand : goal.decreases-loop-stand
decreases-loop-stand l =
    length l.part - l.done.used
