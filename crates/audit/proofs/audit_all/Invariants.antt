use Rattle.std.proofs.Common.{◌*◌}
use Rattle.pool_state.specs.Shown.{pool}
use Rattle.pool_state.specs.State.{arrays}
use Rattle.audit.specs.Sittings.{Ready}
use Rattle.audit.proofs.audit_all.Given as goal

abbrev pub invariant-loop-turns : goal.invariant-loop-turns
invariant-loop-turns l =
    Ready pool (arrays l.total l.first l.heads l.start l.end l.enabled l.previous l.next l.lprev l.lnext) l.s l.buf (l._turns * 65536)
