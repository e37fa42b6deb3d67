use native.Mathlib.Omega.{arith}
use Rattle.pool_listing.proofs.Answers.{starts-short, lasts-short, done}
use Rattle.pool_listing.proofs.list_in.Goals as goal

pub returns-then-starts-count : goal.returns-then-starts-count
returns-then-starts-count c l o =
    starts-short l _ _ (omega (arith, c.count_entries-count.ensures l _ _ o, c.if-starts-count.true))

pub returns-then-lasts-count : goal.returns-then-lasts-count
returns-then-lasts-count c l o =
    lasts-short l _ _ (omega (arith, c.count_entries-count.ensures l _ _ o, c.if-lasts-count.true))

pub write_entries-requires : goal.write_entries-requires
write_entries-requires c =
    let u = c.requires in
    let all = c.count_entries-count.ensures u.0 _ _ u.1 in
    (u.0, record { ordered = u.1; starts_fit = omega (arith, all, c.if-starts-count.false); lasts_fit = omega (arith, all, c.if-lasts-count.false) })

pub returns : goal.returns
returns c l o =
    let all = c.count_entries-count.ensures l _ _ o in
    done l _ _ _ _ _ all (omega (arith, c.if-starts-count.false)) (omega (arith, c.if-lasts-count.false))
    (c.write_entries.ensures l
    (record { ordered = o; starts_fit = omega (arith, all, c.if-starts-count.false); lasts_fit = omega (arith, all, c.if-lasts-count.false) }))
