use mathlib.Core.Path.{refl}
use Rattle.pool_chain.proofs.nearest_below.Goals as goal

pub loop-k-init : goal.loop-k-init
loop-k-init c h =
    absurd (h refl)

pub returns-then-at-eq0 : goal.returns-then-at-eq0
returns-then-at-eq0 c =
    c.loop-k.invariant

pub returns : goal.returns
returns c =
    c.loop-k.invariant
