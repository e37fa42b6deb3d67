use mathlib.Core.Path.{sym, ◌∙◌}
use native.Mathlib.Omega.{arith}
use lib.Dec.{lit≤}
use Rattle.rules.specs.Rules.{lowest}
use Rattle.pool_state.specs.Shown.{pool}
use Rattle.pool_entries.proofs.Unused.{slot-full, slot_at, unused-is}
use Rattle.pool_entries.proofs.Books.{swap-resizes, swap-shape}
use Rattle.pool_give.proofs.Joining.{joins-below, joins-above, free-below, free-above, sum_fits, below-known, above-known}
use Rattle.pool_give.proofs.Joining.{low-replaces, low-done, high-replaces, high-done, both-drops, both-replaces, both-done, no_record, alone-inserts, alone-done}
use Rattle.pool_give.proofs.define_free_memory.Goals as goal

pub overflow_add-more : goal.overflow_add-more
overflow_add-more c =
    let u = c.requires in let h = sum_fits (lit≤ tt) u.1 in omega arith

pub bounds-f-xn : goal.bounds-f-xn
bounds-f-xn c =
    let u = c.requires in
    let j = joins-below (lit≤ tt) u.1 (sym c.ends_before.ensures ∙ c.if-ends_before.true) in
    (below-known (lit≤ tt) u.1 j).0

pub bounds-f-yn : goal.bounds-f-yn
bounds-f-yn c =
    let u = c.requires in
    let j = joins-above (lit≤ tt) u.1 (sym c.starts_at-high.ensures ∙ c.if-high.true) in
    (above-known (lit≤ tt) u.1 j).0

pub delete_entry-requires : goal.delete_entry-requires
delete_entry-requires c =
    let u = c.requires in
    let jb = joins-below (lit≤ tt) u.1 (sym c.ends_before.ensures ∙ c.if-ends_before.true) in
    let ja = joins-above (lit≤ tt) u.1 (sym c.starts_at-high.ensures ∙ c.if-high.true) in
    (u.0, ja.side.range, both-drops (lit≤ tt) u.1 jb ja)

pub resize-requires : goal.resize-requires
resize-requires c =
    let u = c.requires in
    let jb = joins-below (lit≤ tt) u.1 (sym c.ends_before.ensures ∙ c.if-ends_before.true) in
    let ja = joins-above (lit≤ tt) u.1 (sym c.starts_at-high.ensures ∙ c.if-high.true) in
    let v = c.delete_entry.ensures.does.1 u.0 ja.side.range (both-drops (lit≤ tt) u.1 jb ja) in
    (_, swap-resizes (lit≤ tt) v (both-replaces (lit≤ tt) u.1 jb ja))

pub returns-then-high-clause-does : goal.returns-then-high-clause-does
returns-then-high-clause-does c b k =
    let jb = joins-below (lit≤ tt) k (sym c.ends_before.ensures ∙ c.if-ends_before.true) in
    let ja = joins-above (lit≤ tt) k (sym c.starts_at-high.ensures ∙ c.if-high.true) in
    let v = c.delete_entry.ensures.does.1 b ja.side.range (both-drops (lit≤ tt) k jb ja) in
    let r = both-replaces (lit≤ tt) k jb ja in
    both-done (lit≤ tt) k jb ja
    (swap-shape (lit≤ tt) v r c.resize.ensures.start_value.0 c.resize.ensures.start_value.1
    (c.resize.ensures.resized _ (swap-resizes (lit≤ tt) v r)))

pub overflow_sub-t : goal.overflow_sub-t
overflow_sub-t c =
    let u = c.requires in omega (arith, u.1.some_byte)

pub resize-requires-then-ends_before : goal.resize-requires-then-ends_before
resize-requires-then-ends_before c =
    let u = c.requires in
    let jb = joins-below (lit≤ tt) u.1 (sym c.ends_before.ensures ∙ c.if-ends_before.true) in
    let f = free-above (lit≤ tt) u.1 (sym c.starts_at-high.ensures ∙ c.if-high.false) in
    (_, swap-resizes (lit≤ tt) u.1.holds.shape (low-replaces (lit≤ tt) u.1 jb f))

pub returns-then-ends_before-clause-does : goal.returns-then-ends_before-clause-does
returns-then-ends_before-clause-does c b k =
    let jb = joins-below (lit≤ tt) k (sym c.ends_before.ensures ∙ c.if-ends_before.true) in
    let f = free-above (lit≤ tt) k (sym c.starts_at-high.ensures ∙ c.if-high.false) in
    let r = low-replaces (lit≤ tt) k jb f in
    low-done (lit≤ tt) k jb f
    (swap-shape (lit≤ tt) k.holds.shape r c.resize-then-ends_before.ensures.start_value.0 c.resize-then-ends_before.ensures.start_value.1
    (c.resize-then-ends_before.ensures.resized _ (swap-resizes (lit≤ tt) k.holds.shape r)))

pub bounds-f-yn-then-high-2 : goal.bounds-f-yn-then-high-2
bounds-f-yn-then-high-2 c =
    let u = c.requires in
    let j = joins-above (lit≤ tt) u.1 (sym c.starts_at-high.ensures ∙ c.if-high-2.true) in
    (above-known (lit≤ tt) u.1 j).0

pub resize-requires-then-high-2 : goal.resize-requires-then-high-2
resize-requires-then-high-2 c =
    let u = c.requires in
    let ja = joins-above (lit≤ tt) u.1 (sym c.starts_at-high.ensures ∙ c.if-high-2.true) in
    let f = free-below (lit≤ tt) u.1 (sym c.ends_before.ensures ∙ c.if-ends_before.false) in
    (_, swap-resizes (lit≤ tt) u.1.holds.shape (high-replaces (lit≤ tt) u.1 ja f))

pub returns-then-high-2-clause-does : goal.returns-then-high-2-clause-does
returns-then-high-2-clause-does c b k =
    let ja = joins-above (lit≤ tt) k (sym c.starts_at-high.ensures ∙ c.if-high-2.true) in
    let f = free-below (lit≤ tt) k (sym c.ends_before.ensures ∙ c.if-ends_before.false) in
    let r = high-replaces (lit≤ tt) k ja f in
    high-done (lit≤ tt) k ja f
    (swap-shape (lit≤ tt) k.holds.shape r c.resize-then-high-2.ensures.start_value.0 c.resize-then-high-2.ensures.start_value.1
    (c.resize-then-high-2.ensures.resized _ (swap-resizes (lit≤ tt) k.holds.shape r)))

pub create_memory_entry-requires : goal.create_memory_entry-requires
create_memory_entry-requires c =
    let u = c.requires in (u.0.chain, u.1.holds.shape.kept.marked)

pub returns-in_default-clause-does : goal.returns-in_default-clause-does
returns-in_default-clause-does c b k =
    let f = free-below (lit≤ tt) k (sym c.ends_before.ensures ∙ c.if-ends_before.false) in
    let g = free-above (lit≤ tt) k (sym c.starts_at-high.ensures ∙ c.if-high-2.false) in
    no_record (lit≤ tt) k f g
    (rw (unused-is pool b) at (slot-full pool (lowest pool 0 b.chain) (sym c.in_default.is ∙ c.create_memory_entry.ensures b.chain k.holds.shape.kept.marked)))

pub overflow_sub-t-2 : goal.overflow_sub-t-2
overflow_sub-t-2 c =
    let u = c.requires in omega (arith, u.1.some_byte)

pub insert-requires : goal.insert-requires
insert-requires c =
    let u = c.requires in
    let f = free-below (lit≤ tt) u.1 (sym c.ends_before.ensures ∙ c.if-ends_before.false) in
    let g = free-above (lit≤ tt) u.1 (sym c.starts_at-high.ensures ∙ c.if-high-2.false) in
    let s = slot_at pool _ _ (sym c.in-Some.is ∙ c.create_memory_entry.ensures u.0.chain u.1.holds.shape.kept.marked) in
    (u.0, alone-inserts (lit≤ tt) u.1 f g _ (s.0 ∙ unused-is pool u.0) (rw (← s.0) at s.1))

pub returns-clause-does : goal.returns-clause-does
returns-clause-does c b k =
    let f = free-below (lit≤ tt) k (sym c.ends_before.ensures ∙ c.if-ends_before.false) in
    let g = free-above (lit≤ tt) k (sym c.starts_at-high.ensures ∙ c.if-high-2.false) in
    let s = slot_at pool _ _ (sym c.in-Some.is ∙ c.create_memory_entry.ensures b.chain k.holds.shape.kept.marked) in
    let ei = s.0 ∙ unused-is pool b in
    let bi = rw (← s.0) at s.1 in
    alone-done (lit≤ tt) k f g _ ei bi
    (c.insert.ensures.does.1 b (alone-inserts (lit≤ tt) k f g _ ei bi))
