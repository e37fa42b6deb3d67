use mathlib.Core.Path.{◌≡◌, sym, ap, ◌∙◌}
use native.Mathlib.Omega.{arith}
use Rattle.mapper_blocks.specs.Blocks.{blocked_in}
use Rattle.mapper_blocks.proofs.Strides.{stride, entry-room, table-room, page-words}
use Rattle.mapper_blocks.proofs.Blocks.{at-page, at-shut, at_other, at_table, none_yet, one_more, one_blocks}
use Rattle.mapper_blocks.proofs.+blocks.Goals as goal

pub block_at-returns-then-height-eq0 : goal.block_at-returns-then-height-eq0
block_at-returns-then-height-eq0 t c =
    let s = c.args in at-page s.q s.first s.arena.now s.height s.e s.d c.if-height-eq0.true

pub block_at-block_in-requires : goal.block_at-block_in-requires
block_at-block_in-requires t c =
    let below = c.decreases in
    (omega arith, (omega arith, table-room _ _ _ c.if-height-eq0.false c.requires.1, page-words _ _ c.table_page-at.ensures))

pub block_at-returns-then-is_table : goal.block_at-returns-then-is_table
block_at-returns-then-is_table t c =
    let s = c.args in
    c.block_in.ensures
    ∙ at_table s.q s.first s.arena.now s.height s.e s.d _ c.if-height-eq0.false (sym c.word_opens.ensures ∙ c.if-word_opens.true)
    (sym c.is_table.ensures ∙ c.if-is_table.true) c.table_page-at.ensures

pub block_at-returns-then-word_opens : goal.block_at-returns-then-word_opens
block_at-returns-then-word_opens t c =
    let s = c.args in
    c.is_block.ensures
    ∙ at_other s.q s.first s.arena.now s.height s.e s.d c.if-height-eq0.false (sym c.word_opens.ensures ∙ c.if-word_opens.true)
    (sym c.is_table.ensures ∙ c.if-is_table.false)

pub block_at-returns : goal.block_at-returns
block_at-returns t c =
    let s = c.args in
    at-shut s.q s.first s.arena.now s.height s.e s.d c.if-height-eq0.false (sym c.word_opens.ensures ∙ c.if-word_opens.false)

pub block_in-loop-j-init : goal.block_in-loop-j-init
block_in-loop-j-init t c =
    let s = c.args in none_yet s.q s.first s.arena.now s.height s.e s.at

pub block_in-overflow_mul-j : goal.block_in-overflow_mul-j
block_in-overflow_mul-j t c =
    let s = stride _ _ c.requires.0 c.span_of-bytes.ensures in
    let room = entry-room _ c.loop-j.j _ _ _ c.loop-j-test.true c.requires.1 in
    rw s (omega arith)

pub block_in-overflow_add-e : goal.block_in-overflow_add-e
block_in-overflow_add-e t c =
    let s = stride _ _ c.requires.0 c.span_of-bytes.ensures in
    let room = entry-room _ c.loop-j.j _ _ _ c.loop-j-test.true c.requires.1 in
    rw s (omega arith)

pub block_in-block_at-requires : goal.block_in-block_at-requires
block_in-block_at-requires t c =
    let s = stride _ _ c.requires.0 c.span_of-bytes.ensures in
    let below = c.decreases in
    (omega arith, (c.requires.0, rw s (entry-room _ c.loop-j.j _ _ _ c.loop-j-test.true c.requires.1)))

pub block_in-returns-then-block_at : goal.block_in-returns-then-block_at
block_in-returns-then-block_at t c =
    let s = c.args in
    rw c.if-found.false
    (one_blocks s.q s.first s.arena.now s.height s.e s.at c.loop-j.j s.count _ _ _
    (stride _ _ c.requires.0 c.span_of-bytes.ensures) c.word_at-d.ensures c.loop-j-test.true c.block_at.ensures c.if-block_at.true)

pub block_in-loop-j-preserved : goal.block_in-loop-j-preserved
block_in-loop-j-preserved t c =
    let s = c.args in
    one_more s.q s.first s.arena.now s.height s.e s.at c.loop-j.j _ _ _
    (stride _ _ c.requires.0 c.span_of-bytes.ensures) c.word_at-d.ensures c.loop-j.invariant c.block_at.ensures c.if-block_at.false

pub block_in-returns : goal.block_in-returns
block_in-returns t c =
    let s = c.args in
    let end : c.loop-j.j ≡ s.count = let most = c.loop-j.auto.j-end in let least = c.loop-j-test.false in omega arith in
    rw c.if-found.false (c.loop-j.invariant ∙ ap (blocked_in s.q s.first s.arena.now s.height s.e s.at) end)
