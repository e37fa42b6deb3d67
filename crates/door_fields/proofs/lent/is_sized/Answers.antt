use borrow.Author.Tests.{eq-eqb, ne_eqb}
use Rattle.door_fields.specs.Fields.{is_sized_lem}
use Rattle.door_fields.proofs.lent.is_sized.Goals as goal

pub returns-then-heads-ne-LISTS : goal.returns-then-heads-ne-LISTS
unfolding is_sized_lem
returns-then-heads-ne-LISTS c =
    rw (ne_eqb _ _ c.if-heads-ne-LISTS.true)

pub returns-then-start-ne-POOL : goal.returns-then-start-ne-POOL
unfolding is_sized_lem
returns-then-start-ne-POOL c =
    rw (eq-eqb _ _ c.if-heads-ne-LISTS.false, ne_eqb _ _ c.if-start-ne-POOL.true)

pub returns-then-end-ne-POOL : goal.returns-then-end-ne-POOL
unfolding is_sized_lem
returns-then-end-ne-POOL c =
    rw (eq-eqb _ _ c.if-heads-ne-LISTS.false, eq-eqb _ _ c.if-start-ne-POOL.false, ne_eqb _ _ c.if-end-ne-POOL.true)

pub returns-then-enabled-ne-POOL : goal.returns-then-enabled-ne-POOL
unfolding is_sized_lem
returns-then-enabled-ne-POOL c =
    rw (
      eq-eqb _ _ c.if-heads-ne-LISTS.false,
      eq-eqb _ _ c.if-start-ne-POOL.false,
      eq-eqb _ _ c.if-end-ne-POOL.false,
      ne_eqb _ _ c.if-enabled-ne-POOL.true,
    )

pub returns-then-previous-ne-POOL : goal.returns-then-previous-ne-POOL
unfolding is_sized_lem
returns-then-previous-ne-POOL c =
    rw (
      eq-eqb _ _ c.if-heads-ne-LISTS.false,
      eq-eqb _ _ c.if-start-ne-POOL.false,
      eq-eqb _ _ c.if-end-ne-POOL.false,
      eq-eqb _ _ c.if-enabled-ne-POOL.false,
      ne_eqb _ _ c.if-previous-ne-POOL.true,
    )

pub returns-then-next-ne-POOL : goal.returns-then-next-ne-POOL
unfolding is_sized_lem
returns-then-next-ne-POOL c =
    rw (
      eq-eqb _ _ c.if-heads-ne-LISTS.false,
      eq-eqb _ _ c.if-start-ne-POOL.false,
      eq-eqb _ _ c.if-end-ne-POOL.false,
      eq-eqb _ _ c.if-enabled-ne-POOL.false,
      eq-eqb _ _ c.if-previous-ne-POOL.false,
      ne_eqb _ _ c.if-next-ne-POOL.true,
    )

pub returns-then-lprev-ne-POOL : goal.returns-then-lprev-ne-POOL
unfolding is_sized_lem
returns-then-lprev-ne-POOL c =
    rw (
      eq-eqb _ _ c.if-heads-ne-LISTS.false,
      eq-eqb _ _ c.if-start-ne-POOL.false,
      eq-eqb _ _ c.if-end-ne-POOL.false,
      eq-eqb _ _ c.if-enabled-ne-POOL.false,
      eq-eqb _ _ c.if-previous-ne-POOL.false,
      eq-eqb _ _ c.if-next-ne-POOL.false,
      ne_eqb _ _ c.if-lprev-ne-POOL.true,
    )

pub returns : goal.returns
unfolding is_sized_lem
returns c =
    rw (
      eq-eqb _ _ c.if-heads-ne-LISTS.false,
      eq-eqb _ _ c.if-start-ne-POOL.false,
      eq-eqb _ _ c.if-end-ne-POOL.false,
      eq-eqb _ _ c.if-enabled-ne-POOL.false,
      eq-eqb _ _ c.if-previous-ne-POOL.false,
      eq-eqb _ _ c.if-next-ne-POOL.false,
      eq-eqb _ _ c.if-lprev-ne-POOL.false,
    )
