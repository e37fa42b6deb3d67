use Prim.Native.Nat.{◌+◌, ◌*◌, ◌-◌}
use mathlib.Core.Path.{◌≡◌, ap, ◌∙◌}
use native.Mathlib.Omega.{arith}
use lib.ListN.{length, length-take, length-drop}
use borrow.Rule.Slice.PartMut.{mid_of}
use Rattle.bytes_be.specs.Numbers.{be}
use Rattle.bytes_be.proofs.Laws.{length-be}
use Rattle.image_parts.specs.Layout.{current}
use Rattle.image_parts.specs.Written.{link_bytes}
use Rattle.image_parts.proofs.Loops.{lay-start, lay-next, lay-end}
use Rattle.image_parts.proofs.links.write_links.Goals as goal

pub loop-k-init : goal.loop-k-init
loop-k-init c =
    lay-start _ 0 current.link _ _ (omega (arith, c.requires))

pub link_number-requires : goal.link_number-requires
link_number-requires c =
    tt

pub put_be-requires : goal.put_be-requires
put_be-requires c =
    tt

pub loop-k-preserved : goal.loop-k-preserved
loop-k-preserved c =
    let l = c.loop-k in
    let w = current.link in
    let size : w * l.k + w - w * l.k ≡ w = omega arith in
    let m : length (mid_of (w * l.k) (w * l.k + w - w * l.k) l.part) ≡ w = simp (length-take, length-drop) (omega arith) in
    let y = rw m at c.put_be.ensures in
    lay-next _ 0 w _ l.k _ l.part _ (w * l.k) (w * l.k + w - w * l.k) (omega arith) size (omega arith) (length-be w _)
    (y ∙ ap (be w) c.link_number.ensures) l.invariant

pub returns : goal.returns
unfolding link_bytes
returns c =
    let l = c.loop-k in
    lay-end _ 0 current.link _ l.k _ l.part (omega arith) l.invariant
