use borrow.Author.Tests.{lt-ltb, le-ltb}
use Rattle.pages.specs.Pages.{raised}
use Rattle.pages.proofs.raised_order.Goals as goal

pub returns-then-order-lt-PAGE_ORDER : goal.returns-then-order-lt-PAGE_ORDER
unfolding raised
returns-then-order-lt-PAGE_ORDER c =
    rw (lt-ltb _ _ c.if-order-lt-PAGE_ORDER.true)

pub returns : goal.returns
unfolding raised
returns c =
    rw (le-ltb _ _ c.if-order-lt-PAGE_ORDER.false)
