use Prim.Native.Nat.{ℕ}
use Rattle.pool_state.specs.Shown.{pool}
use Rattle.check_links.specs.Bounds.{Bounds}
use Rattle.check_links.proofs.Bounds.{ListAt}
use Rattle.check_links.proofs.tally_list.Given as goal

abbrev pub invariant-loop-cur : goal.invariant-loop-cur
invariant-loop-cur l =
    (k : ℕ) → Bounds k l.least l.most → ListAt pool l.start l.end l.enabled l.lprev l.lnext k l.least l.most l.count l.initial.cur.0 l.before.0 l.cur.0 l.low l.left

abbrev pub decreases-loop-cur : goal.decreases-loop-cur
decreases-loop-cur l =
    l.left
