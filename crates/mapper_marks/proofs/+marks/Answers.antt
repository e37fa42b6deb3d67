use mathlib.Core.Path.{◌≡◌, sym, ap, ◌∙◌}
use mathlib.Core.Bool.{true}
use Prim.Native.Nat.{ℕ, ◌+◌, ◌-◌}
use native.Mathlib.Omega.{arith}
use Rattle.mapper_marks.specs.Marking.{run, meet_all, tables_in}
use Rattle.mapper_marks.proofs.Meeting.{told-before, at-page, at_other, at_table, none_yet, told_all, one_more}
use Rattle.mapper_marks.proofs.+marks.Goals as goal

pub mark_at-returns-then-height-eq0 : goal.mark_at-returns-then-height-eq0
mark_at-returns-then-height-eq0 t c =
    let s = c.args in at-page s.limits s.first s.arena.now s.height s.d (run true s.left.now s.marks.now) c.if-height-eq0.true

pub mark_at-returns-then-meet_page : goal.mark_at-returns-then-meet_page
mark_at-returns-then-meet_page t c =
    let s = c.args in
    at_table s.limits s.first s.arena.now s.height s.d _ (run true s.left.now s.marks.now) _ _
    c.if-height-eq0.false (sym c.is_table.ensures ∙ c.if-is_table.true) c.table_page-page.ensures (rw c.if-meet_page.true at c.meet_page.ensures) c.mark_in.ensures

pub mark_at-returns-then-is_table : goal.mark_at-returns-then-is_table
mark_at-returns-then-is_table t c =
    let s = c.args in
    at_table s.limits s.first s.arena.now s.height s.d _ (run true s.left.now s.marks.now) _ _
    c.if-height-eq0.false (sym c.is_table.ensures ∙ c.if-is_table.true) c.table_page-page.ensures (rw c.if-meet_page.false at c.meet_page.ensures) (told-before _ _ _ _)

pub mark_at-returns : goal.mark_at-returns
mark_at-returns t c =
    let s = c.args in
    at_other s.limits s.first s.arena.now s.height s.d (run true s.left.now s.marks.now) c.if-height-eq0.false (sym c.is_table.ensures ∙ c.if-is_table.false)

pub mark_in-loop-j-init : goal.mark_in-loop-j-init
mark_in-loop-j-init t c =
    let s = c.args in none_yet s.limits s.first s.arena.now s.height s.at (run true s.left.now s.marks.now)

pub mark_in-loop-j-preserved : goal.mark_in-loop-j-preserved
mark_in-loop-j-preserved t c =
    let s = c.args in
    one_more s.limits s.first s.arena.now s.height s.at (run true s.left.now s.marks.now) c.loop-j.j _ (run true c.loop-j.left c.loop-j.marks) _
    c.word_at-d.ensures c.loop-j.invariant (rw c.if-not-mark_at.false at c.mark_at.ensures)

pub mark_in-returns-then-not-mark_at : goal.mark_in-returns-then-not-mark_at
mark_in-returns-then-not-mark_at t c =
    let s = c.args in
    let j = c.loop-j.j in
    let more = c.loop-j-test.true in
    rw c.if-not-fine.false
    (told_all s.limits s.first s.arena.now s.height s.at (run true s.left.now s.marks.now) (s.count - (j + 1)) (j + 1) s.count _ _ (omega arith)
    (one_more s.limits s.first s.arena.now s.height s.at (run true s.left.now s.marks.now) j _ (run true c.loop-j.left c.loop-j.marks) _
    c.word_at-d.ensures c.loop-j.invariant (rw c.if-not-mark_at.true at c.mark_at.ensures)))

pub mark_in-returns : goal.mark_in-returns
mark_in-returns t c =
    let s = c.args in
    let end : c.loop-j.j ≡ s.count = let most = c.loop-j.auto.j-end in let least = c.loop-j-test.false in omega arith in
    rw c.if-not-fine.false
    (c.loop-j.invariant ∙ ap (λ (i : ℕ). meet_all s.limits (tables_in s.first s.arena.now s.height s.at i) (run true s.left.now s.marks.now)) end)

-- after one that is told, none is looked at
pub mark_in-returns-then-not-fine : goal.mark_in-returns-then-not-fine
mark_in-returns-then-not-fine t c =
    let s = c.args in
    rw c.if-not-fine.true (told-before s.limits (tables_in s.first s.arena.now s.height s.at s.count) s.left.now s.marks.now)
