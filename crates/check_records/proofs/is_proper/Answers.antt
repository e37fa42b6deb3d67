use borrow.Author.Tests.{le-leb, lt-leb}
use Rattle.check_records.specs.Records.{proper}
use Rattle.check_records.proofs.is_proper.Goals as goal

pub returns-then-end-start : goal.returns-then-end-start
unfolding proper
returns-then-end-start c =
    rw (lt-leb _ _ c.if-end-start.true)

pub returns : goal.returns
unfolding proper
returns c =
    rw (le-leb _ _ c.if-end-start.false)
