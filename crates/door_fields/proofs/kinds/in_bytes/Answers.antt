use mathlib.Core.Path.{sym}
use borrow.Author.Tests.{eq-eqb, ne_eqb}
use Rattle.door_fields.specs.Fields.{asked_here}
use Rattle.door_fields.proofs.kinds.in_bytes.Goals as goal

pub returns-then-kind-eq-ALLOCATE_PAGES : goal.returns-then-kind-eq-ALLOCATE_PAGES
unfolding asked_here
returns-then-kind-eq-ALLOCATE_PAGES c =
    rw (c.bytes_of.ensures, c.raised_order.ensures, eq-eqb _ _ c.if-kind-eq-ALLOCATE_PAGES.true)

pub returns-then-kind-eq-FREE_PAGES : goal.returns-then-kind-eq-FREE_PAGES
unfolding asked_here
returns-then-kind-eq-FREE_PAGES c =
    rw (c.freed_bytes.ensures, ne_eqb _ _ c.if-kind-eq-ALLOCATE_PAGES.false, eq-eqb _ _ c.if-kind-eq-FREE_PAGES.true)

pub returns : goal.returns
unfolding asked_here
returns c =
    sym (rw (ne_eqb _ _ c.if-kind-eq-ALLOCATE_PAGES.false, ne_eqb _ _ c.if-kind-eq-FREE_PAGES.false))
