use mathlib.Core.Path.{sym, ◌∙◌}
use mathlib.Core.Bool.{true}
use Prim.Native.Nat.{◌+◌, ◌-◌}
use native.Mathlib.Omega.{arith}
use Rattle.mapper_blocks.proofs.Strides.{stride, entry-room, table-room, page-words}
use Rattle.mapper_pages.specs.Pages.{supply, wants_in}
use Rattle.mapper_pages.proofs.Asking.{at-page, at-shut, at_table, at-fresh, at-wanting, none_yet, one_more, no_more, all-taken, refused_all}
use Rattle.mapper_pages.proofs.+pages.Goals as goal

pub ask_at-returns-then-height-eq0 : goal.ask_at-returns-then-height-eq0
ask_at-returns-then-height-eq0 t c =
    let s = c.args in at-page s.q s.first s.arena.now s.height s.e s.d (supply true s.image.now) c.if-height-eq0.true

pub ask_at-ask_in-requires : goal.ask_at-ask_in-requires
ask_at-ask_in-requires t c =
    let below = c.decreases in
    (omega arith, (omega arith, table-room _ _ _ c.if-height-eq0.false c.requires.1, page-words _ _ c.table_page-at.ensures))

pub ask_at-returns-then-is_table : goal.ask_at-returns-then-is_table
ask_at-returns-then-is_table t c =
    let s = c.args in
    at_table s.q s.first s.arena.now s.height s.e s.d _ (supply true s.image.now) c.if-height-eq0.false (sym c.word_opens.ensures ∙ c.if-word_opens.true)
    (sym c.is_table.ensures ∙ c.if-is_table.true) c.table_page-at.ensures c.ask_in.ensures

pub ask_at-ask_in-requires-then-ask_page : goal.ask_at-ask_in-requires-then-ask_page
ask_at-ask_in-requires-then-ask_page t c =
    let below = c.decreases in
    (omega arith, (omega arith, table-room _ _ _ c.if-height-eq0.false c.requires.1, omega arith))

pub ask_at-returns-then-ask_page : goal.ask_at-returns-then-ask_page
ask_at-returns-then-ask_page t c =
    let s = c.args in
    at-fresh s.q s.first s.arena.now s.height s.e s.d 0 (supply true s.image.now) _ c.if-height-eq0.false (sym c.word_opens.ensures ∙ c.if-word_opens.true)
    (sym c.is_table.ensures ∙ c.if-is_table.false) (rw c.if-ask_page.true at c.ask_page.ensures) c.ask_in-then-ask_page.ensures

pub ask_at-returns-then-word_opens : goal.ask_at-returns-then-word_opens
ask_at-returns-then-word_opens t c =
    let s = c.args in
    at-wanting s.q s.first s.arena.now s.height s.e s.d (supply true s.image.now) _ c.if-height-eq0.false (sym c.word_opens.ensures ∙ c.if-word_opens.true)
    (sym c.is_table.ensures ∙ c.if-is_table.false) (rw c.if-ask_page.false at c.ask_page.ensures)

pub ask_at-returns : goal.ask_at-returns
ask_at-returns t c =
    let s = c.args in
    at-shut s.q s.first s.arena.now s.height s.e s.d (supply true s.image.now) c.if-height-eq0.false (sym c.word_opens.ensures ∙ c.if-word_opens.false)

pub ask_in-loop-j-init : goal.ask_in-loop-j-init
ask_in-loop-j-init t c =
    let s = c.args in none_yet s.q s.first s.arena.now s.fresh s.height s.e s.at (supply true s.image.now)

pub ask_in-overflow_mul-j : goal.ask_in-overflow_mul-j
ask_in-overflow_mul-j t c =
    let s = stride _ _ c.requires.0 c.span_of-bytes.ensures in
    let room = entry-room _ c.loop-j.j _ _ _ c.loop-j-test.true c.requires.1 in
    rw s (omega arith)

pub ask_in-overflow_add-e : goal.ask_in-overflow_add-e
ask_in-overflow_add-e t c =
    let s = stride _ _ c.requires.0 c.span_of-bytes.ensures in
    let room = entry-room _ c.loop-j.j _ _ _ c.loop-j-test.true c.requires.1 in
    rw s (omega arith)

pub ask_in-ask_at-requires : goal.ask_in-ask_at-requires
ask_in-ask_at-requires t c =
    let s = stride _ _ c.requires.0 c.span_of-bytes.ensures in
    let below = c.decreases in
    (omega arith, (c.requires.0, rw s (entry-room _ c.loop-j.j _ _ _ c.loop-j-test.true c.requires.1)))

pub ask_in-returns-then-not-ask_at : goal.ask_in-returns-then-not-ask_at
ask_in-returns-then-not-ask_at t c =
    let s = c.args in
    let j = c.loop-j.j in
    let more = c.loop-j-test.true in
    rw c.if-not-enough.false
    (refused_all s.q s.first s.arena.now s.fresh s.height s.e s.at (supply true s.image.now) (s.count - (j + 1)) (j + 1) s.count _ (omega arith)
    (one_more s.q s.first s.arena.now s.fresh s.height s.e s.at (supply true s.image.now) j _ _ (supply true c.loop-j.image)
    (stride _ _ c.requires.0 c.span_of-bytes.ensures) c.word_in-d.ensures c.loop-j.invariant (rw c.if-not-ask_at.true at c.ask_at.ensures)))

pub ask_in-loop-j-preserved : goal.ask_in-loop-j-preserved
ask_in-loop-j-preserved t c =
    let s = c.args in
    one_more s.q s.first s.arena.now s.fresh s.height s.e s.at (supply true s.image.now) c.loop-j.j _ _ (supply true c.loop-j.image)
    (stride _ _ c.requires.0 c.span_of-bytes.ensures) c.word_in-d.ensures c.loop-j.invariant (rw c.if-not-ask_at.false at c.ask_at.ensures)

pub ask_in-returns : goal.ask_in-returns
ask_in-returns t c =
    let s = c.args in
    rw c.if-not-enough.false
    (all-taken s.q s.first s.arena.now s.fresh s.height s.e s.at (supply true s.image.now) c.loop-j.j s.count c.loop-j.invariant
    (let most = c.loop-j.auto.j-end in let least = c.loop-j-test.false in omega arith))

-- after a refusal none is asked for
pub ask_in-returns-then-not-enough : goal.ask_in-returns-then-not-enough
ask_in-returns-then-not-enough t c =
    let s = c.args in
    rw c.if-not-enough.true (no_more (wants_in s.q s.first s.arena.now s.fresh s.height s.e s.at s.count) s.image.now)
