use Prim.Native.Nat.{◌+◌, ◌*◌, ◌-◌}
use native.Mathlib.Omega.{arith}
use lib.ListN.{length-take, length-drop}
use Rattle.image_parts.proofs.Loops.{lay-start, lay-next, lay-end}
use Rattle.holder_rules.specs.Register.{entries}
use Rattle.holder_rules.proofs.Owned.{owned-entries}
use Rattle.holder_image.specs.Layout.{entry_size}
use Rattle.holder_image.specs.Bytes.{entries_bytes}
use Rattle.holder_image.proofs.Parts.{length-entry}
use Rattle.holder_image.proofs.entries.write_entries.Goals as goal

pub loop-i-init : goal.loop-i-init
loop-i-init c =
    lay-start _ 0 entry_size entries _ (let p = c.requires in omega arith)

pub slice_bounds-write_entry-end : goal.slice_bounds-write_entry-end
slice_bounds-write_entry-end c =
    let l = c.loop-i-test.true in let s = c.loop-i.invariant.sized in omega arith

pub write_entry-requires : goal.write_entry-requires
write_entry-requires c =
    let l = c.loop-i-test.true in let s = c.loop-i.invariant.sized in simp (length-take, length-drop) (omega arith)

pub loop-i-preserved : goal.loop-i-preserved
loop-i-preserved c =
    let t = c.loop-i-test.true in let l = c.loop-i in
    lay-next _ 0 entry_size entries l.i _ l.part _ (entry_size * l.i) (entry_size * l.i + entry_size - entry_size * l.i) (omega arith) (omega arith) (omega arith) (length-entry _) c.write_entry.ensures l.invariant

pub shape_of-part : goal.shape_of-part
shape_of-part c =
    let s = c.loop-i.invariant.sized in let p = c.requires in omega arith

pub returns : goal.returns
unfolding entries_bytes
returns c =
    let l = c.loop-i in let t = c.loop-i-test.false in lay-end _ 0 entry_size entries l.i _ l.part (omega arith) l.invariant
