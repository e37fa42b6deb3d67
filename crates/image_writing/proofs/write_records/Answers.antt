use Prim.Native.Nat.{◌+◌, ◌*◌, ◌-◌}
use mathlib.Core.Path.{refl, sym, ◌∙◌}
use native.Mathlib.Omega.{arith}
use lib.ListN.{length-take, length-drop}
use Rattle.pool_state.specs.Shown.{pool}
use Rattle.image_parts.specs.Layout.{current, records_at_lem, enabled_at, record_size_lem}
use Rattle.image_parts.proofs.Parts.{length-record}
use Rattle.image_writing.proofs.Renewing.{renew-start, as_it_was, renew-pass, renew-next, renew-end, passed}
use Rattle.image_writing.proofs.write_records.Goals as goal

pub loop-i-init : goal.loop-i-init
loop-i-init c =
    renew-start _ (records_at_lem current) (record_size_lem current) pool _ c.requires.image_len

pub is_standing-requires : goal.is_standing-requires
is_standing-requires c =
    tt

pub loop-i-preserved-then-is_standing : goal.loop-i-preserved-then-is_standing
loop-i-preserved-then-is_standing c =
    let l = c.loop-i in
    let p = passed _ _ _ _ c.is_standing.ensures c.if-is_standing.true in
    let was = sym (as_it_was _ (records_at_lem current) (record_size_lem current) pool _ l.i l.image l.invariant enabled_at) in
    renew-pass _ (records_at_lem current) (record_size_lem current) pool _ l.i l.image l.invariant (omega arith)
    (c.requires.stands p.kept l.i (omega arith) p.off (λ e. p.unmarked (sym was ∙ e)))

pub write_record-requires : goal.write_record-requires
write_record-requires c =
    simp (length-take, length-drop) (omega arith)

pub loop-i-preserved : goal.loop-i-preserved
loop-i-preserved c =
    let l = c.loop-i in
    let at = records_at_lem current + record_size_lem current * l.i in
    renew-next _ (records_at_lem current) (record_size_lem current) pool _ l.i l.image l.invariant _ at (at + record_size_lem current - at) refl (omega arith) (omega arith) (length-record current _)
    c.write_record.ensures

pub returns : goal.returns
returns c =
    let l = c.loop-i in
    renew-end _ (records_at_lem current) (record_size_lem current) pool _ l.i l.image (omega arith) l.invariant
