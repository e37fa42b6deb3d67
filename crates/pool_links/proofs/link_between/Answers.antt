use lib.Dec.{lit≤}
use Rattle.linked_lists.proofs.Threading.{into}
use Rattle.pool_state.specs.Shown.{pool}
use Rattle.pool_links.proofs.link_between.Goals as goal

pub returns : goal.returns
returns c key lists l r t w =
    into pool (lit≤ tt) key lists _ _ t _ _ _ l r _ _ _ _ w
    c.point.ensures c.point-2.ensures c.point-3.ensures c.point-4.ensures
