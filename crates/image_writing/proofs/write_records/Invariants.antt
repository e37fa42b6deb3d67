use Prim.Native.Nat.{◌-◌}
use Rattle.pool_state.specs.Shown.{pool}
use Rattle.image_parts.specs.Layout.{current, records_at_lem, record_size_lem}
use Rattle.image_parts.specs.Written.{record_bytes}
use Rattle.image_writing.specs.Writing.{entry_of}
use Rattle.image_writing.proofs.Renewing.{Renewing}
use Rattle.image_writing.proofs.write_records.Given as goal

abbrev pub invariant-loop-i : goal.invariant-loop-i
invariant-loop-i l =
    Renewing (λ j. record_bytes current (entry_of l.start l.end l.enabled l.previous l.next l.lprev l.lnext j)) (records_at_lem current) (record_size_lem current) pool l.i l.initial.image l.image

abbrev pub decreases-loop-i : goal.decreases-loop-i
decreases-loop-i l =
    pool - l.i
