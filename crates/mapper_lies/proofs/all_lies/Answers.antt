use mathlib.Core.Path.{◌∙◌}
use native.Mathlib.Omega.{arith}
use lib.ListN.{length}
use Rattle.mapper_lies.proofs.Tops.{in_order}
use Rattle.mapper_lies.proofs.Listing.{count_fits, lies-listed, lies-unlisted, lies-nowhere, fresh-length}
use Rattle.mapper_lies.proofs.all_lies.Goals as goal

-- src/lib.rt:99:9
pub returns-then-base-gt-TOP : goal.returns-then-base-gt-TOP
returns-then-base-gt-TOP c =
    let s = c.args in lies-nowhere s.base s.top s.image.now s.arena.now c.if-base-gt-TOP.true

-- src/lib.rt:106:33
pub ranges_lie-requires : goal.ranges_lie-requires
ranges_lie-requires c =
    let s = c.args in
    let order = in_order s.base (length s.arena.now) c.if-base-gt-TOP.false in
    let is = c.top_byte-high.ensures in
    let many = count_fits s.image.now _ _ _ _ fresh-length fresh-length _ c.free_ranges-listed.ensures _ c.in-Some.is in
    let starts = c.free_ranges-listed.auto.starts ∙ fresh-length in
    let lasts = c.free_ranges-listed.auto.lasts ∙ fresh-length in
    ((let a = order.0 in rw is a), (let b = order.1 in rw is b), c.requires.0, c.requires.1, omega arith, omega arith)

-- src/lib.rt:94:1
pub returns-in-Some : goal.returns-in-Some
returns-in-Some c =
    let s = c.args in
    lies-listed s.image.now _ _ _ _ fresh-length fresh-length _ c.free_ranges-listed.ensures s.base _ _ s.top s.arena.now c.if-base-gt-TOP.false c.top_byte-high.ensures c.in-Some.is _ c.ranges_lie.ensures

-- src/lib.rt:94:1
pub returns-in-None : goal.returns-in-None
returns-in-None c =
    let s = c.args in
    lies-unlisted s.image.now _ _ _ _ fresh-length fresh-length _ c.free_ranges-listed.ensures s.base _ 0 s.top s.arena.now c.if-base-gt-TOP.false c.top_byte-high.ensures c.in-None.is
