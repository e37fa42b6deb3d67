use Prim.Native.Nat.{suc}
use mathlib.Core.Path.{sym, ◌∙◌}
use Rattle.rules.specs.Rules.{meets}
use Rattle.holder_check.proofs.Spans.{listed_here, listed-later, listed-none}
use Rattle.holder_check.proofs.meets_listed.Goals as goal

pub returns-then-overlaps : goal.returns-then-overlaps
returns-then-overlaps c =
    let x = c.args in let p = c.requires in
    sym (c.loop-i.invariant ∙ listed_here c.loop-i.i x.count x.starts.now x.lasts.now c.loop-i-test.true p.0 p.1 (meets x.first (suc x.last)) (sym c.overlaps.ensures ∙ c.if-overlaps.true))

pub loop-i-preserved : goal.loop-i-preserved
loop-i-preserved c =
    let x = c.args in let p = c.requires in
    c.loop-i.invariant ∙ listed-later c.loop-i.i x.count x.starts.now x.lasts.now c.loop-i-test.true p.0 p.1 (meets x.first (suc x.last)) (sym c.overlaps.ensures ∙ c.if-overlaps.false)

pub returns : goal.returns
returns c =
    let x = c.args in
    sym (c.loop-i.invariant ∙ listed-none (meets x.first (suc x.last)) c.loop-i.i x.count x.starts.now x.lasts.now c.loop-i-test.false)
