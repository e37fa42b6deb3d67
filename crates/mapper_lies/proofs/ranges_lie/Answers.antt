use mathlib.Core.Path.{sym, ◌∙◌}
use native.Mathlib.Omega.{arith}
use Rattle.mapper_lies.proofs.ranges_lie.Goals as goal

-- src/lib.rt:78:8
pub ranges_inside-requires : goal.ranges_inside-requires
ranges_inside-requires c =
    let p = c.requires in (p.4, p.5)

-- src/lib.rt:79:9
pub tables_apart-requires : goal.tables_apart-requires
tables_apart-requires c =
    let p = c.requires in let low = p.0 in let high = p.1 in (omega arith, omega arith, p.2, p.3, p.4, p.5)

-- src/lib.rt:79:9
pub returns-then-ranges_inside : goal.returns-then-ranges_inside
returns-then-ranges_inside c =
    rw (sym c.ranges_inside.ensures ∙ c.if-ranges_inside.true) c.tables_apart.ensures

-- src/lib.rt:66:1
pub returns : goal.returns
returns c =
    rw (sym c.ranges_inside.ensures ∙ c.if-ranges_inside.false)
