use mathlib.Core.Path.{◌≡◌, ◌∙◌}
use native.Mathlib.Omega.{arith}
use Rattle.script_replies.proofs.Tables.{rowed-none, rowed-more, rows-room, table_done, puts-length}
use Rattle.script_replies.proofs.put_table.Goals as goal

pub loop-i-init : goal.loop-i-init
loop-i-init c =
    rowed-none c.args.starts.now c.args.lasts.now c.put_list-next.new.out c.put_list-next.result
    (omega (arith, rows-room c.args.count c.args.total _ _ _ _ (omega arith) (omega arith) c.requires.1 c.put_list-next.ensures))

pub loop-i-preserved : goal.loop-i-preserved
loop-i-preserved c =
    rowed-more c.args.starts.now c.args.lasts.now c.put_list-next.new.out c.put_list-next.result c.loop-i.i _ _ _ _
    (omega (arith, rows-room c.args.count c.args.total _ _ _ _ (omega arith) (omega arith) c.requires.1 c.put_list-next.ensures))
    c.loop-i.invariant c.put_row-next.ensures

pub shape_of-out : goal.shape_of-out
shape_of-out c =
    puts-length _ _ _ _ _ c.loop-i.invariant.puts ∙ puts-length _ _ _ _ _ c.put_list-next.ensures

pub returns : goal.returns
returns c =
    let all : c.loop-i.i ≡ c.args.count = omega arith in
    table_done c.args.count c.args.total c.args.starts.now c.args.lasts.now c.args.out.now _ _ c.args.at _ _ (omega arith) (omega arith) c.requires.1 c.put_list-next.ensures
    (rw all at c.loop-i.invariant)
