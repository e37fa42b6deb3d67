use mathlib.Core.Path.{sym}
use lib.ListN.{get_or-eq_default}
use borrow.Author.Tests.{le-leb, lt-leb}
use mathlib.Core.Bool.{false}
use Rattle.mapper_marks.proofs.is_marked.Goals as goal

-- src/lib.rt:24:9
pub returns-then-page-lo : goal.returns-then-page-lo
returns-then-page-lo c =
    rw (lt-leb _ _ c.if-page-lo.true)

-- src/lib.rt:28:9
pub returns-then-k-marks : goal.returns-then-k-marks
returns-then-k-marks c =
    rw (le-leb _ _ c.if-page-lo.false)

-- src/lib.rt:20:1
pub returns : goal.returns
returns c =
    rw (le-leb _ _ c.if-page-lo.false) (sym (get_or-eq_default c.args.marks.now false c.if-k-marks.false))
