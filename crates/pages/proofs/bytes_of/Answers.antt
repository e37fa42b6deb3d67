use borrow.Author.Tests.{lt-ltb, le-ltb}
use Rattle.pages.specs.Pages.{bytes_of_lem}
use Rattle.pages.proofs.bytes_of.Goals as goal

pub returns-then-count-gt-MOST_PAGES : goal.returns-then-count-gt-MOST_PAGES
unfolding bytes_of_lem
returns-then-count-gt-MOST_PAGES c =
    rw (lt-ltb _ _ c.if-count-gt-MOST_PAGES.true)

pub returns : goal.returns
unfolding bytes_of_lem
returns c =
    rw (le-ltb _ _ c.if-count-gt-MOST_PAGES.false)
