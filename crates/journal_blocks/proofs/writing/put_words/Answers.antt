use Prim.Native.Nat.{◌+◌, ◌*◌, ◌-◌}
use mathlib.Core.Path.{◌≡◌}
use native.Mathlib.Omega.{arith}
use lib.ListN.{length, length-take, length-drop}
use borrow.Rule.Slice.PartMut.{mid_of}
use Rattle.bytes_be.proofs.Laws.{length-be}
use Rattle.image_parts.proofs.Loops.{lay-start, lay-next, lay-end}
use Rattle.journal_blocks.specs.Journal.{word_bytes}
use Rattle.journal_blocks.proofs.writing.put_words.Goals as goal

pub loop-k-init : goal.loop-k-init
loop-k-init c =
    lay-start _ 0 8 _ _ (omega (arith, c.requires))

pub loop-k-preserved : goal.loop-k-preserved
loop-k-preserved c =
    let l = c.loop-k in
    let size : 8 * l.k + 8 - 8 * l.k ≡ 8 = omega arith in
    let m : length (mid_of (8 * l.k) (8 * l.k + 8 - 8 * l.k) l.part) ≡ 8 = simp (length-take, length-drop) (omega arith) in
    lay-next _ 0 8 _ l.k _ l.part _ (8 * l.k) (8 * l.k + 8 - 8 * l.k) (omega arith) size (omega arith) (length-be 8 _)
    (rw m at c.put_be.ensures) l.invariant

pub returns : goal.returns
unfolding word_bytes
returns c =
    let l = c.loop-k in
    lay-end _ 0 8 _ l.k _ l.part (omega arith) l.invariant
