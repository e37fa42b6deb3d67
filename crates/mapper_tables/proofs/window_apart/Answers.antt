use native.Mathlib.Omega.{arith}
use Rattle.mapper_free.specs.Free.{touches}
use Rattle.mapper_marks.specs.declared.Limits.{Limits}
use Rattle.mapper_marks.specs.Marking.{tables_in}
use Rattle.mapper_marks.proofs.Meeting.{told-before}
use Rattle.mapper_tables.specs.Reached.{pages_from}
use Rattle.mapper_tables.proofs.Tops.{window-told}
use Rattle.mapper_tables.proofs.Fresh.{no-marks, no-mark}
use Rattle.mapper_tables.proofs.window_apart.Goals as goal

pub overflow_sub-left : goal.overflow_sub-left
overflow_sub-left c =
    let room = c.requires.0 in omega arith

pub mark_free-requires : goal.mark_free-requires
mark_free-requires c =
    let p = c.requires in (p.3, p.4)

pub meet_pages-requires : goal.meet_pages-requires
meet_pages-requires c =
    c.requires.1

pub mark_in-requires : goal.mark_in-requires
mark_in-requires c =
    c.requires.2

pub returns-then-meet_pages : goal.returns-then-meet_pages
returns-then-meet_pages c =
    let s = c.args in
    window-told (record { lowest = s.low; past = s.high; lo = s.lo }) (touches s.starts.now s.lasts.now s.count) (pages_from s.top.page s.top.pages)
    (tables_in s.first s.arena.now s.top.height s.top.word s.top.entries) _ _ _ _ _ _ _ _ no-marks no-mark c.mark_free.ensures
    (rw c.if-meet_pages.true at c.meet_pages.ensures) c.mark_in.ensures

pub returns : goal.returns
returns c =
    let s = c.args in
    let limits : Limits = record { lowest = s.low; past = s.high; lo = s.lo } in
    let tables = tables_in s.first s.arena.now s.top.height s.top.word s.top.entries in
    window-told limits (touches s.starts.now s.lasts.now s.count) (pages_from s.top.page s.top.pages) tables _ _ _ _ _ _ _ _ no-marks no-mark c.mark_free.ensures
    (rw c.if-meet_pages.false at c.meet_pages.ensures) (told-before limits tables _ _)
