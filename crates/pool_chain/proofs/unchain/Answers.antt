use lib.Dec.{lit≤}
use Rattle.linked_lists.specs.Threads.{alone, only}
use Rattle.pool_state.specs.Shown.{pool, numbers}
use Rattle.pool_chain.proofs.Chain.{unchained}
use Rattle.pool_chain.proofs.unchain.Goals as goal

pub returns : goal.returns
returns c l t h =
    unchained pool (lit≤ tt) l _ _ _ t _ h _ _ _ _ c.link_of-a.ensures c.choose.ensures
    (c.unlink.ensures alone (only (numbers l)) t.threads h)
