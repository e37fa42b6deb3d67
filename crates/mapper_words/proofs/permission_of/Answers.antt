use Rattle.mapper_laws.specs.Mapping.{permission_of_lem}
use Rattle.mapper_words.proofs.permission_of.Goals as goal

pub returns-then-readable : goal.returns-then-readable
unfolding permission_of_lem
returns-then-readable c =
    rw (c.if-writable.true, c.if-readable.true)

pub returns-then-writable : goal.returns-then-writable
unfolding permission_of_lem
returns-then-writable c =
    rw (c.if-writable.true, c.if-readable.false)

pub returns-then-readable-2 : goal.returns-then-readable-2
unfolding permission_of_lem
returns-then-readable-2 c =
    rw (c.if-writable.false, c.if-readable-2.true)

pub returns : goal.returns
unfolding permission_of_lem
returns c =
    rw (c.if-writable.false, c.if-readable-2.false)
