use mathlib.Core.Bool.{true}
use Prim.Native.Nat.{◌+◌, ◌-◌}
use native.Mathlib.Omega.{arith}
use Rattle.mapper_marks.specs.Marking.{run}
use Rattle.mapper_tables.proofs.Tops.{no-page, page-more, pages-all, pages-told}
use Rattle.mapper_tables.proofs.meet_pages.Goals as goal

pub loop-k-init : goal.loop-k-init
loop-k-init c =
    let s = c.args in no-page s.limits s.page (run true s.left.now s.marks.now)

pub overflow_add-page : goal.overflow_add-page
overflow_add-page c =
    let room = c.requires in omega arith

pub returns-then-not-meet_page : goal.returns-then-not-meet_page
returns-then-not-meet_page c =
    let s = c.args in
    let k = c.loop-k.k in
    let more = c.loop-k-test.true in
    pages-told s.limits s.page (run true s.left.now s.marks.now) (s.count - (k + 1)) (k + 1) s.count _ _ (omega arith)
    (page-more s.limits s.page k (run true s.left.now s.marks.now) (run true c.loop-k.left c.loop-k.marks) _ c.loop-k.invariant (rw c.if-not-meet_page.true at c.meet_page.ensures))

pub loop-k-preserved : goal.loop-k-preserved
loop-k-preserved c =
    let s = c.args in
    page-more s.limits s.page c.loop-k.k (run true s.left.now s.marks.now) (run true c.loop-k.left c.loop-k.marks) _ c.loop-k.invariant (rw c.if-not-meet_page.false at c.meet_page.ensures)

pub returns : goal.returns
returns c =
    let s = c.args in
    pages-all s.limits s.page c.loop-k.k s.count (run true s.left.now s.marks.now) _ c.loop-k.invariant (let most = c.loop-k.auto.k-end in let least = c.loop-k-test.false in omega arith)
