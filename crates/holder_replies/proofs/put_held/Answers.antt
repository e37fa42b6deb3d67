use mathlib.Core.Path.{◌≡◌, ◌∙◌}
use native.Mathlib.Omega.{arith}
use Rattle.script_replies.proofs.Tables.{puts-length}
use Rattle.holder_replies.proofs.Tables.{rowed-none, rowed-room, rowed-more, rows-room, table_done}
use Rattle.holder_replies.proofs.put_held.Goals as goal

pub put_head-next-requires : goal.put_head-next-requires
put_head-next-requires c =
    let h = c.requires.1 in omega arith

pub loop-i-init : goal.loop-i-init
loop-i-init c =
    let x = c.args in
    let room = rows-room x.count x.bytes _ _ _ _ c.requires.1 c.put_head-next.ensures in
    rowed-none x.holders.now x.starts.now x.lasts.now c.put_head-next.new.out c.put_head-next.result (omega arith)

pub put_row-next-requires : goal.put_row-next-requires
put_row-next-requires c =
    let x = c.args in let t = c.loop-i-test.true in
    let room = rows-room x.count x.bytes _ _ _ _ c.requires.1 c.put_head-next.ensures in
    rowed-room x.holders.now x.starts.now x.lasts.now c.put_head-next.new.out c.put_head-next.result c.loop-i.i _ _ (omega arith) c.loop-i.invariant

pub loop-i-preserved : goal.loop-i-preserved
loop-i-preserved c =
    let x = c.args in let t = c.loop-i-test.true in
    let room = rows-room x.count x.bytes _ _ _ _ c.requires.1 c.put_head-next.ensures in
    rowed-more x.holders.now x.starts.now x.lasts.now c.put_head-next.new.out c.put_head-next.result c.loop-i.i _ _ (omega arith) c.loop-i.invariant _ _ c.put_row-next.ensures

pub shape_of-out : goal.shape_of-out
shape_of-out c =
    puts-length _ _ _ _ _ c.loop-i.invariant.puts ∙ puts-length _ _ _ _ _ c.put_head-next.ensures.puts

pub returns : goal.returns
returns c =
    let x = c.args in let t = c.loop-i-test.false in let e = c.loop-i.auto.i-end in
    let all : c.loop-i.i ≡ x.count = omega arith in
    table_done x.count x.bytes x.holders.now x.starts.now x.lasts.now x.out.now _ _ x.at _ _ c.requires.1 c.put_head-next.ensures (rw all at c.loop-i.invariant)
