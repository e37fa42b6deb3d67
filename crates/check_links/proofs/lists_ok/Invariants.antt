use Prim.Native.Nat.{◌-◌}
use mathlib.Core.Path.{◌≡◌}
use Rattle.rules.specs.Rules.{size_lists}
use Rattle.pool_state.specs.Shown.{pool}
use Rattle.check_links.specs.Walks.{lists_ok_lem}
use Rattle.check_links.proofs.Bounds.{least_of}
use Rattle.check_links.proofs.lists_ok.Given as goal

abbrev pub invariant-loop-k : goal.invariant-loop-k
invariant-loop-k l =
    let from = lists_ok_lem pool l.heads l.start l.end l.enabled l.lprev l.lnext in
    (l.least ≡ least_of l.k) × (from size_lists 0 l.count ≡ from (size_lists - l.k) l.k l.left)
