use lib.Dec.{lit≤}
use mathlib.Core.List.{◌++◌}
use Rattle.linked_lists.specs.Threads.{alone, only}
use Rattle.pool_state.specs.Shown.{pool, numbers}
use Rattle.pool_chain.proofs.Chain.{enter-between, entered}
use Rattle.pool_chain.proofs.enchain.Goals as goal

pub returns : goal.returns
returns c q l r e u =
    entered pool (lit≤ tt) _ _ _ _ _ q l r u _ _ _ (rw e c.choose.ensures)
    (rw e (c.link_between.ensures alone (only (numbers (l ++ r))) (numbers l) (numbers r) u.chained.threads
    (rw e at (enter-between pool (lit≤ tt) _ _ _ _ _ q l r u))))
