use Rattle.account_state.proofs.Ways.{low-within, low-empty, low-above}
use Rattle.account_state.proofs.is_low_sound.Goals as goal

pub returns-then-lowest-total : goal.returns-then-lowest-total
returns-then-lowest-total c =
    low-within _ _ c.if-lowest-total.true

pub returns-then-total-eq0 : goal.returns-then-total-eq0
returns-then-total-eq0 c =
    low-empty _ _ c.if-lowest-total.false c.if-total-eq0.true

pub returns : goal.returns
returns c =
    low-above _ _ c.if-lowest-total.false c.if-total-eq0.false
