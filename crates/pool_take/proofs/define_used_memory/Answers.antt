use Rattle.rules.specs.Rules.{lowest}
use mathlib.Core.Path.{sym, ◌∙◌}
use lib.Dec.{lit≤}
use native.Mathlib.Omega.{arith}
use Rattle.pool_state.specs.Shown.{pool}
use Rattle.pool_take.proofs.Pieces.{high-resizes, high_taken, low-proper, low-resizes, low-shape, below, enough, last-below, drops, whole-done, low-done, no_record, both-inserts, both-done}
use Rattle.pool_entries.proofs.Unused.{unused-is, slot-full, slot_at}
use Rattle.pool_take.proofs.define_used_memory.Goals as goal

pub bounds-f-n : goal.bounds-f-n
bounds-f-n c =
    let u = c.requires in below (lit≤ tt) u.2

pub bounds-f-n-2 : goal.bounds-f-n-2
bounds-f-n-2 c =
    let u = c.requires in below (lit≤ tt) u.2

pub overflow_sub-left-2 : goal.overflow_sub-left-2
overflow_sub-left-2 c =
    let u = c.requires in enough (lit≤ tt) u.2

pub overflow_add-last : goal.overflow_add-last
overflow_add-last c =
    let u = c.requires in omega (arith, last-below (lit≤ tt) u.2)

pub delete_entry-requires : goal.delete_entry-requires
delete_entry-requires c =
    let u = c.requires in (u.0, u.1, drops (lit≤ tt) u.2)

pub returns-then-t-last-clause-does : goal.returns-then-t-last-clause-does
returns-then-t-last-clause-does c b r k =
    whole-done (lit≤ tt) k c.if-from-a.true c.if-t-last.true
    (c.delete_entry.ensures.does.1 b r (drops (lit≤ tt) k))

pub resize-requires : goal.resize-requires
resize-requires c =
    let u = c.requires in (u.0.shelf, high-resizes (lit≤ tt) u.2 c.if-from-a.true c.if-t-last.false)

pub returns-then-from-a-clause-does : goal.returns-then-from-a-clause-does
returns-then-from-a-clause-does c b r k =
    high_taken (lit≤ tt) k c.if-from-a.true c.if-t-last.false c.resize.ensures.start_value.0 c.resize.ensures.start_value.1
    (c.resize.ensures.resized b.shelf (high-resizes (lit≤ tt) k c.if-from-a.true c.if-t-last.false))

pub overflow_add-last-2 : goal.overflow_add-last-2
overflow_add-last-2 c =
    let u = c.requires in omega (arith, last-below (lit≤ tt) u.2)

pub overflow_sub-a : goal.overflow_sub-a
overflow_sub-a c =
    let u = c.requires in low-proper (lit≤ tt) u.2 c.if-from-a.false

pub resize-requires-then-t-last-2 : goal.resize-requires-then-t-last-2
resize-requires-then-t-last-2 c =
    let u = c.requires in (u.0.shelf, low-resizes (lit≤ tt) u.2 c.if-from-a.false)

pub returns-then-t-last-2-clause-does : goal.returns-then-t-last-2-clause-does
returns-then-t-last-2-clause-does c b r k =
    low-done (lit≤ tt) k c.if-from-a.false c.if-t-last-2.true
    (low-shape (lit≤ tt) k c.if-from-a.false c.resize-then-t-last-2.ensures.start_value.0 c.resize-then-t-last-2.ensures.start_value.1
    (c.resize-then-t-last-2.ensures.resized b.shelf (low-resizes (lit≤ tt) k c.if-from-a.false)))

pub returns-in_default-clause-does : goal.returns-in_default-clause-does
returns-in_default-clause-does c b r k =
    no_record (lit≤ tt) k c.if-from-a.false c.if-t-last-2.false
    (rw (unused-is pool b) at (slot-full pool (lowest pool 0 b.chain) (sym c.in_default.is ∙ c.create_memory_entry.ensures b.chain k.holds.shape.kept.marked)))

pub overflow_sub-a-2 : goal.overflow_sub-a-2
overflow_sub-a-2 c =
    let u = c.requires in low-proper (lit≤ tt) u.2 c.if-from-a.false

pub resize-requires-2 : goal.resize-requires-2
resize-requires-2 c =
    let u = c.requires in (u.0.shelf, low-resizes (lit≤ tt) u.2 c.if-from-a.false)

pub link_of-y-requires : goal.link_of-y-requires
link_of-y-requires c =
    let u = c.requires in below (lit≤ tt) u.2

pub insert-requires : goal.insert-requires
insert-requires c =
    let u = c.requires in
    let f = slot_at pool _ _ (sym c.in-Some.is ∙ c.create_memory_entry.ensures u.0.chain u.2.holds.shape.kept.marked) in
    let ej = f.0 ∙ unused-is pool u.0 in
    let bj = rw (← f.0) at f.1 in
    let v = low-shape (lit≤ tt) u.2 c.if-from-a.false c.resize-2.ensures.start_value.0 c.resize-2.ensures.start_value.1
    (c.resize-2.ensures.resized u.0.shelf (low-resizes (lit≤ tt) u.2 c.if-from-a.false)) in
    let w = both-inserts (lit≤ tt) u.2 c.if-from-a.false c.if-t-last-2.false _ ej bj c.link_of-y.ensures v in
    (_, w)

pub returns-clause-does : goal.returns-clause-does
returns-clause-does c b r k =
    let f = slot_at pool _ _ (sym c.in-Some.is ∙ c.create_memory_entry.ensures b.chain k.holds.shape.kept.marked) in
    let ej = f.0 ∙ unused-is pool b in
    let bj = rw (← f.0) at f.1 in
    let v = low-shape (lit≤ tt) k c.if-from-a.false c.resize-2.ensures.start_value.0 c.resize-2.ensures.start_value.1
    (c.resize-2.ensures.resized b.shelf (low-resizes (lit≤ tt) k c.if-from-a.false)) in
    let w = both-inserts (lit≤ tt) k c.if-from-a.false c.if-t-last-2.false _ ej bj c.link_of-y.ensures v in
    both-done (lit≤ tt) k c.if-from-a.false c.if-t-last-2.false _ ej bj (c.insert.ensures.does.1 _ w)
