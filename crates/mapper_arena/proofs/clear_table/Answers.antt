use native.Mathlib.Omega.{arith}
use Rattle.mapper_arena.proofs.Clearing.{page-small, none-cleared, one_more, all-cleared, cleared-length}
use Rattle.mapper_arena.proofs.clear_table.Goals as goal

pub overflow_mul-at : goal.overflow_mul-at
overflow_mul-at c =
    let s = page-small _ _ c.table_page-at.ensures in omega arith

pub loop-j-init : goal.loop-j-init
loop-j-init c =
    none-cleared _ _ _

pub overflow_add-at : goal.overflow_add-at
overflow_add-at c =
    let s = page-small _ _ c.table_page-at.ensures in omega arith

pub loop-j-preserved : goal.loop-j-preserved
loop-j-preserved c =
    one_more _ _ _ _ _ c.loop-j.invariant c.put_word.ensures

pub shape_of-arena : goal.shape_of-arena
shape_of-arena c =
    rw c.loop-j.invariant (cleared-length _ _ _ _)

pub returns : goal.returns
returns c =
    all-cleared 512 _ _ {n = c.loop-j.j} c.loop-j.invariant (let e = c.loop-j.auto.j-end in let h = c.loop-j-test.false in omega arith) c.table_page-at.ensures
