use mathlib.Core.Path.{sym, ◌∙◌}
use Rattle.check_records.proofs.Bits.{or-is-zero}
use Rattle.check_records.proofs.Records.{stale, by-links}
use Rattle.check_records.proofs.is_fresh.Goals as goal

pub returns-then-start-end-ne0 : goal.returns-then-start-end-ne0
returns-then-start-end-ne0 c =
    sym (stale _ _ _ _ _ _ c.if-start-end-ne0.true)

pub returns : goal.returns
returns c =
    let z = or-is-zero _ _ c.if-start-end-ne0.false in
    c.is_unlinked.ensures ∙ sym (by-links _ _ _ _ _ _ z.0 z.1)
