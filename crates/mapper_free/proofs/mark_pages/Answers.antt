use mathlib.Core.Path.{refl}
use native.Mathlib.Omega.{arith}
use Rattle.mapper_free.proofs.Painting.{before-them, up-to-them, up-to-all}
use Rattle.mapper_free.proofs.mark_pages.Goals as goal

pub returns-then-to-lo : goal.returns-then-to-lo
returns-then-to-lo c =
    let s = c.args in before-them s.lo s.from s.to s.marks.now s.marks.now c.if-to-lo.true

pub returns-then-reach-most : goal.returns-then-reach-most
returns-then-reach-most c =
    let s = c.args in
    let high = c.if-to-lo.false in
    let edge = c.if-from-lo.true in
    let reach = c.if-reach-most.true in
    up-to-them s.lo s.from s.to s.marks.now _ _ _ (omega arith) high refl c.paint.ensures

pub returns-then-from-lo : goal.returns-then-from-lo
returns-then-from-lo c =
    let s = c.args in
    let high = c.if-to-lo.false in
    let edge = c.if-from-lo.true in
    up-to-all s.lo s.from s.to s.marks.now _ _ _ (omega arith) high refl c.if-reach-most.false c.paint-then-from-lo.ensures

pub returns-then-reach-most-2 : goal.returns-then-reach-most-2
returns-then-reach-most-2 c =
    let s = c.args in
    let high = c.if-to-lo.false in
    let edge = c.if-from-lo.false in
    let reach = c.if-reach-most-2.true in
    up-to-them s.lo s.from s.to s.marks.now _ _ _ (omega arith) high refl c.paint-then-reach-most-2.ensures

pub returns : goal.returns
returns c =
    let s = c.args in
    let high = c.if-to-lo.false in
    let edge = c.if-from-lo.false in
    up-to-all s.lo s.from s.to s.marks.now _ _ _ (omega arith) high refl c.if-reach-most-2.false c.paint-2.ensures
