use mathlib.Core.List.{List}
use mathlib.Core.Path.{◌≡◌}
use lib.ListN.{length, get_or}
use Rattle.linked_lists.specs.Links.{steps}
use Rattle.rules.specs.Rules.{Range}
use Rattle.pool_state.specs.Shown.{pool}
use Rattle.pool_listing.specs.Listing.{Roomy}
use Rattle.pool_listing.proofs.Writing.{Writes}
use Rattle.pool_listing.proofs.write_entries.Given as goal

abbrev pub invariant-loop-cur : goal.invariant-loop-cur
invariant-loop-cur l =
    (length l.starts ≡ length l.initial.starts) × (length l.lasts ≡ length l.initial.lasts) × ((c : List Range) → Roomy pool c l.start l.end l.next l.initial.cur.0 l.initial.starts l.initial.lasts → Writes c l.initial.starts l.initial.lasts l.starts l.lasts l.count l.cur.0)

abbrev pub decreases-loop-cur : goal.decreases-loop-cur
decreases-loop-cur l =
    steps (λ i. get_or l.next i 0) pool l.cur.0
