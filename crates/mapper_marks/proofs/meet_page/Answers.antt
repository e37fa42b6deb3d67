use mathlib.Core.Path.{sym, ◌∙◌}
use Rattle.mapper_marks.proofs.Meeting.{no_room, too-low, too-high, met-before, met-first}
use Rattle.mapper_marks.proofs.meet_page.Goals as goal

-- src/lib.rt:50:9
pub returns-then-left-eq0 : goal.returns-then-left-eq0
returns-then-left-eq0 c =
    let s = c.args in no_room s.limits s.page _ _ c.if-left-eq0.true

-- src/lib.rt:53:9
pub returns-then-page-limits : goal.returns-then-page-limits
returns-then-page-limits c =
    let some = c in
    let s = some.args in
    too-low s.limits s.page _ _ some.if-left-eq0.false c.if-page-limits.true

-- src/lib.rt:56:9
pub returns-then-limits-page : goal.returns-then-limits-page
returns-then-limits-page c =
    let low = c in
    let some = low in
    let s = some.args in
    too-high s.limits s.page _ _ some.if-left-eq0.false low.if-page-limits.false c.if-limits-page.true

-- src/lib.rt:60:9
pub returns-then-is_marked : goal.returns-then-is_marked
returns-then-is_marked c =
    let marked = c in
    let high = marked in
    let low = high in
    let some = low in
    let s = some.args in
    met-before s.limits s.page _ _ some.if-left-eq0.false low.if-page-limits.false high.if-limits-page.false (sym marked.is_marked.ensures ∙ c.if-is_marked.true)

-- src/lib.rt:46:1
pub returns : goal.returns
returns c =
    let set = c in
    let free = set in
    let marked = free in
    let high = marked in
    let low = high in
    let some = low in
    let s = some.args in
    met-first s.limits s.page _ _ some.if-left-eq0.false low.if-page-limits.false high.if-limits-page.false (sym marked.is_marked.ensures ∙ free.if-is_marked.false) _ set.set_mark.ensures
