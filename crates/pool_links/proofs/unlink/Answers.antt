use lib.Dec.{lit≤}
use Rattle.linked_lists.proofs.Threading.{out}
use Rattle.pool_state.specs.Shown.{pool}
use Rattle.pool_links.proofs.unlink.Goals as goal

pub returns : goal.returns
returns c key lists t h =
    out pool (lit≤ tt) key lists _ _ t _ _ _ _ _ _ _ h
    c.link_of-b.ensures c.link_of-a.ensures
    c.point.ensures c.point-2.ensures c.point-3.ensures c.point-4.ensures
