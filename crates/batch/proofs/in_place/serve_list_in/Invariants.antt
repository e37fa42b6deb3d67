use mathlib.Core.Path.{◌≡◌}
use lib.ListN.{length}
use Rattle.pool_state.specs.Shown.{pool}
use Rattle.pool_state.specs.State.{arrays}
use Rattle.account_state.specs.Account.{account}
use Rattle.batch.proofs.Going.{Going}
use Rattle.batch.proofs.in_place.serve_list_in.Given as goal

abbrev pub invariant-loop-k : goal.invariant-loop-k
invariant-loop-k l =
    (length l.answers ≡ length l.initial.answers)
    × Going pool (account (arrays l.initial.total l.initial.first l.initial.heads l.initial.start l.initial.end l.initial.enabled l.initial.previous l.initial.next l.initial.lprev l.initial.lnext) l.initial.lowest) l.calls l.initial.answers l.k (account (arrays l.total l.first l.heads l.start l.end l.enabled l.previous l.next l.lprev l.lnext) l.lowest) l.answers
