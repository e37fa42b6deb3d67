use mathlib.Core.Path.{sym}
use Rattle.check_links.proofs.Bounds.{most-last, shifted}
use Rattle.check_links.proofs.most_of.Goals as goal

pub returns-then-k : goal.returns-then-k
returns-then-k c =
    shifted _ c.if-k.true

pub returns : goal.returns
returns c =
    sym (most-last _ c.if-k.false)
