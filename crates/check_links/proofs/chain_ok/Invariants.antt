use Rattle.pool_state.specs.Shown.{pool}
use Rattle.check_links.proofs.Chain.{ChainAt}
use Rattle.check_links.proofs.chain_ok.Given as goal

abbrev pub invariant-loop-cur : goal.invariant-loop-cur
invariant-loop-cur l =
    ChainAt pool l.initial.cur.0 l.start l.end l.enabled l.previous l.next l.count l.before.0 l.cur.0 l.low l.sum l.left

abbrev pub decreases-loop-cur : goal.decreases-loop-cur
decreases-loop-cur l =
    l.left
