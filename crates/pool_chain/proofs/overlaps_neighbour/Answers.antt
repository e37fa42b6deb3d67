use mathlib.Core.Path.{sym, ◌∙◌}
use lib.Dec.{lit≤}
use Rattle.pool_state.specs.Shown.{pool}
use Rattle.pool_chain.proofs.Overlap.{low-overlaps, high-overlaps}
use Rattle.pool_chain.proofs.overlaps_neighbour.Goals as goal

pub returns-then-reaches : goal.returns-then-reaches
returns-then-reaches c l p =
    c.if-reaches.true ∙ low-overlaps pool (lit≤ tt) l _ _ _ _ _ _ c.requires p (sym c.reaches.ensures ∙ c.if-reaches.true)

pub returns-else-reaches : goal.returns-else-reaches
returns-else-reaches c l p =
    c.starts_below.ensures ∙ high-overlaps pool (lit≤ tt) l _ _ _ _ _ _ c.requires p (sym c.reaches.ensures ∙ c.if-reaches.false)
