use Prim.Native.Nat.{◌-◌, ◌≤◌}
use mathlib.Core.Path.{◌≡◌}
use Rattle.pool_state.specs.Shown.{pool}
use Rattle.image_records.specs.Records.{plain, RecordsIn}
use Rattle.image_records.proofs.Tallied.{Tallied}
use Rattle.image_records.proofs.records.read_records.Given as goal

abbrev pub invariant-loop-i : goal.invariant-loop-i
invariant-loop-i l =
    (plain l.form l.image (l.form.records - l.i) l.i ≡ plain l.form l.image l.form.records 0) × (l.i ≤ l.form.records)
    × RecordsIn pool l.i l.form l.image l.start l.end l.enabled l.previous l.next l.lprev l.lnext
    × Tallied pool l.used l.start l.end l.enabled l.previous l.next l.lprev l.lnext

abbrev pub decreases-loop-i : goal.decreases-loop-i
decreases-loop-i l =
    l.form.records - l.i
