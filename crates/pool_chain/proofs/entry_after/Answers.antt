use borrow.Author.Tests.{eq-eqb, ne_eqb}
use Rattle.linked_lists.specs.Links.{none}
use Rattle.pool_chain.proofs.entry_after.Goals as goal

pub returns-then-i-eq-NONE : goal.returns-then-i-eq-NONE
returns-then-i-eq-NONE c =
    rw (eq-eqb c.args.i.0 none c.if-i-eq-NONE.true)

pub link_of-requires : goal.link_of-requires
link_of-requires c =
    c.requires c.if-i-eq-NONE.false

pub returns : goal.returns
returns c =
    rw (ne_eqb c.args.i.0 none c.if-i-eq-NONE.false) c.link_of.ensures
