use Prim.Native.Nat.{◌-◌, ◌≤◌}
use mathlib.Core.Bool.{true}
use mathlib.Core.Path.{◌≡◌}
use Rattle.linked_lists.specs.Links as links
use Rattle.pool_state.specs.Shown.{pool}
use Rattle.check_records.specs.Records.{all, record_at, used}
use Rattle.check_records.proofs.tally_records.Given as goal

abbrev pub invariant-loop-i : goal.invariant-loop-i
invariant-loop-i l =
    (l.i ≤ pool) × (all (record_at l.start l.end l.enabled l.previous l.next l.lprev l.lnext) l.i ≡ true) × (l.count ≡ links.count (used l.enabled) l.i)

abbrev pub decreases-loop-i : goal.decreases-loop-i
decreases-loop-i l =
    pool - l.i
