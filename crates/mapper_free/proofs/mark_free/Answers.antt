use mathlib.Core.Path.{refl}
use native.Mathlib.Omega.{arith}
use Rattle.mapper_free.proofs.Painting.{none-added, one-added, all-added}
use Rattle.mapper_free.proofs.mark_free.Goals as goal

pub loop-i-init : goal.loop-i-init
loop-i-init c =
    let s = c.args in none-added s.lo s.starts.now s.lasts.now s.marks.now

pub bounds-starts-i : goal.bounds-starts-i
bounds-starts-i c =
    let room = c.requires.0 in omega arith

pub bounds-lasts-i : goal.bounds-lasts-i
bounds-lasts-i c =
    let room = c.requires.1 in omega arith

pub loop-i-preserved : goal.loop-i-preserved
loop-i-preserved c =
    let s = c.args in
    one-added s.lo s.starts.now s.lasts.now s.marks.now c.loop-i.i _ _ c.loop-i.marks _ refl refl c.loop-i.invariant c.mark_pages.ensures

pub returns : goal.returns
returns c =
    let s = c.args in
    all-added s.lo s.starts.now s.lasts.now s.marks.now c.loop-i.i s.count _ c.loop-i.invariant (let most = c.loop-i.auto.i-end in let least = c.loop-i-test.false in omega arith)
