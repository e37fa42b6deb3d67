use borrow.Author.Tests.{eq-eqb, ne_eqb}
use Rattle.pages.specs.Pages.{freed_bytes_lem}
use Rattle.pages.proofs.freed_bytes.Goals as goal

pub returns-then-address-ne0 : goal.returns-then-address-ne0
unfolding freed_bytes_lem
returns-then-address-ne0 c =
    rw (ne_eqb _ _ c.if-address-ne0.true)

pub returns : goal.returns
unfolding freed_bytes_lem
returns c =
    rw (eq-eqb _ _ c.if-address-ne0.false) c.bytes_of.ensures
