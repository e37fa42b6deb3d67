use mathlib.Core.Path.{sym}
use Rattle.batch.proofs.Ways.{part-of-a-call, fits_by}
use Rattle.batch.proofs.list_fits.Goals as goal

pub returns-then-calls-ne0 : goal.returns-then-calls-ne0
returns-then-calls-ne0 c =
    sym (part-of-a-call _ _ c.if-calls-ne0.true)

pub returns : goal.returns
returns c =
    fits_by _ _ c.if-calls-ne0.false
