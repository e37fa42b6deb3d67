use native.Mathlib.Omega.{arith}
use Rattle.mapper_free.proofs.Painting.{none-tested, one-tested, all_tested, one-outside}
use Rattle.mapper_free.proofs.ranges_inside.Goals as goal

pub loop-i-init : goal.loop-i-init
loop-i-init c =
    let s = c.args in none-tested s.low s.high s.starts.now s.lasts.now

pub bounds-starts-i : goal.bounds-starts-i
bounds-starts-i c =
    let room = c.requires.0 in omega arith

pub bounds-lasts-i : goal.bounds-lasts-i
bounds-lasts-i c =
    let room = c.requires.1 in omega arith

pub returns-then-not-range_inside : goal.returns-then-not-range_inside
returns-then-not-range_inside c =
    let s = c.args in
    one-outside s.low s.high s.starts.now s.lasts.now c.loop-i.i s.count c.loop-i-test.true (rw c.if-not-range_inside.true at c.range_inside.ensures)

pub loop-i-preserved : goal.loop-i-preserved
loop-i-preserved c =
    let s = c.args in
    one-tested s.low s.high s.starts.now s.lasts.now c.loop-i.i c.loop-i.invariant (rw c.if-not-range_inside.false at c.range_inside.ensures)

pub returns : goal.returns
returns c =
    let s = c.args in
    all_tested s.low s.high s.starts.now s.lasts.now c.loop-i.i s.count _ c.loop-i.invariant (let most = c.loop-i.auto.i-end in let least = c.loop-i-test.false in omega arith)
