use mathlib.Core.Path.{sym}
use lib.Seq.{set_out}
use borrow.Author.Tests.{le-leb, lt-leb}
use Rattle.mapper_marks.proofs.set_mark.Goals as goal

-- src/lib.rt:37:9
pub returns-then-page-lo : goal.returns-then-page-lo
returns-then-page-lo c =
    rw (lt-leb _ _ c.if-page-lo.true)

-- src/lib.rt:33:1
pub returns-then-k-marks : goal.returns-then-k-marks
returns-then-k-marks c =
    rw (le-leb _ _ c.if-page-lo.false)

-- src/lib.rt:33:1
pub returns-else-k-marks : goal.returns-else-k-marks
returns-else-k-marks c =
    rw (le-leb _ _ c.if-page-lo.false) (sym (set_out _ _ _ c.if-k-marks.false))
