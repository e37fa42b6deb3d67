use mathlib.Core.Path.{sym, ◌∙◌}
use native.Mathlib.Omega.{arith}
use Rattle.mapper_blocks.proofs.Strides.{stride, entry-room, table-room, page-words}
use Rattle.mapper_stores.specs.Stores.{held}
use Rattle.mapper_stores.proofs.Storing.{at-page, at-whole, at_none, at_table, at-fresh, none_yet, one_more, all-stored}
use Rattle.mapper_stores.proofs.+stores.Goals as goal

pub store_at-returns-then-height-eq0 : goal.store_at-returns-then-height-eq0
store_at-returns-then-height-eq0 t c =
    let s = c.args in
    at-page s.q s.first s.height s.e s.w _ (held s.arena.now s.image.now) _ c.requires.0 (sym c.word_meets.ensures ∙ c.if-word_meets.true) c.if-height-eq0.true c.leaf_word.ensures c.put_word.ensures

pub store_at-returns-then-word_fits : goal.store_at-returns-then-word_fits
store_at-returns-then-word_fits t c =
    let s = c.args in
    at-whole s.q s.first s.height s.e s.w _ (held s.arena.now s.image.now) _ c.requires.0 (sym c.word_meets.ensures ∙ c.if-word_meets.true) c.if-height-eq0.false
    (sym c.word_fits.ensures ∙ c.if-word_fits.true) c.leaf_word-then-word_fits.ensures c.put_word-then-word_fits.ensures

pub store_at-store_in-requires : goal.store_at-store_in-requires
store_at-store_in-requires t c =
    let below = c.decreases in
    (omega arith, (omega arith, table-room _ _ _ c.if-height-eq0.false c.requires.1, page-words _ _ c.table_page-at.ensures))

pub store_at-returns-then-is_table : goal.store_at-returns-then-is_table
store_at-returns-then-is_table t c =
    let s = c.args in
    at_table s.q s.first s.height s.e s.w _ _ (held s.arena.now s.image.now) _ c.requires.0 (sym c.word_meets.ensures ∙ c.if-word_meets.true) c.if-height-eq0.false (sym c.word_fits.ensures ∙ c.if-word_fits.false)
    c.word_at-d.ensures (sym c.is_table.ensures ∙ c.if-is_table.true) c.table_page-at.ensures c.store_in.ensures

pub store_at-store_in-requires-then-word_meets : goal.store_at-store_in-requires-then-word_meets
store_at-store_in-requires-then-word_meets t c =
    let below = c.decreases in
    (omega arith, (omega arith, table-room _ _ _ c.if-height-eq0.false c.requires.1, page-words _ _ c.table_page-at-then-word_meets.ensures))

pub store_at-returns-else-is_table : goal.store_at-returns-else-is_table
store_at-returns-else-is_table t c =
    let s = c.args in
    at-fresh s.q s.first s.height s.e s.w _ _ _ (held s.arena.now s.image.now) _ _ c.requires.0 (sym c.word_meets.ensures ∙ c.if-word_meets.true) c.if-height-eq0.false (sym c.word_fits.ensures ∙ c.if-word_fits.false)
    c.word_at-d.ensures (sym c.is_table.ensures ∙ c.if-is_table.false) c.make_table-made.ensures.0 c.table_page-at-then-word_meets.ensures c.make_table-made.ensures.1 c.store_in-then-word_meets.ensures

pub store_at-returns-else-word_meets : goal.store_at-returns-else-word_meets
store_at-returns-else-word_meets t c =
    let s = c.args in
    at_none s.q s.first s.height s.e s.w (held s.arena.now s.image.now) c.requires.0 (sym c.word_meets.ensures ∙ c.if-word_meets.false)

pub store_in-loop-j-init : goal.store_in-loop-j-init
store_in-loop-j-init t c =
    let s = c.args in none_yet s.q s.first s.height s.e s.at (held s.arena.now s.image.now)

pub store_in-overflow_mul-j : goal.store_in-overflow_mul-j
store_in-overflow_mul-j t c =
    let s = stride _ _ c.requires.0 c.span_of-bytes.ensures in
    let room = entry-room _ c.loop-j.j _ _ _ c.loop-j-test.true c.requires.1 in
    rw s (omega arith)

pub store_in-overflow_add-e : goal.store_in-overflow_add-e
store_in-overflow_add-e t c =
    let s = stride _ _ c.requires.0 c.span_of-bytes.ensures in
    let room = entry-room _ c.loop-j.j _ _ _ c.loop-j-test.true c.requires.1 in
    rw s (omega arith)

pub store_in-store_at-requires : goal.store_in-store_at-requires
store_in-store_at-requires t c =
    let s = stride _ _ c.requires.0 c.span_of-bytes.ensures in
    let below = c.decreases in
    (omega arith, (c.requires.0, rw s (entry-room _ c.loop-j.j _ _ _ c.loop-j-test.true c.requires.1)))

pub store_in-loop-j-preserved : goal.store_in-loop-j-preserved
store_in-loop-j-preserved t c =
    let s = c.args in
    one_more s.q s.first s.height s.e s.at (held s.arena.now s.image.now) c.loop-j.j _ (held c.loop-j.arena c.loop-j.image) _
    (stride _ _ c.requires.0 c.span_of-bytes.ensures) c.loop-j.invariant c.store_at.ensures

pub store_in-returns : goal.store_in-returns
store_in-returns t c =
    let s = c.args in
    all-stored s.q s.first s.height s.e s.at (held s.arena.now s.image.now) c.loop-j.j s.count _ c.loop-j.invariant
    (let most = c.loop-j.auto.j-end in let least = c.loop-j-test.false in omega arith)
