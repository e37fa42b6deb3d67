use mathlib.Core.Bool.{not}
use mathlib.Core.Path.{ap}
use borrow.Author.Tests.{lt-ltb, le-ltb, not-true, not-false}
use lib.ListN.{get_or}
use mathlib.Core.Bool.{false}
use Rattle.check_links.specs.Walks.{follows}
use Rattle.check_links.proofs.follows.Goals as goal

pub returns-then-n-ge-POOL : goal.returns-then-n-ge-POOL
unfolding follows
returns-then-n-ge-POOL c =
    rw (le-ltb _ _ c.if-n-ge-POOL.true)

pub returns-then-not-enabled-n : goal.returns-then-not-enabled-n
unfolding follows
returns-then-not-enabled-n c =
    rw (lt-ltb _ _ c.if-n-ge-POOL.false, not-true (get_or c.args.enabled.now c.args.i.0 false) (ap not c.if-not-enabled-n.true))

pub returns : goal.returns
unfolding follows
returns c =
    rw (lt-ltb _ _ c.if-n-ge-POOL.false, not-false (get_or c.args.enabled.now c.args.i.0 false) (ap not c.if-not-enabled-n.false))
