use Prim.Native.Nat.{ℕ, ◌+◌, ◌-◌}
use mathlib.Core.Path.{◌≡◌, sym, ap, ◌∙◌}
use lib.ListN.{get_or}
use Rattle.rules.specs.Rules.{size, up}
use Rattle.pool_state.specs.Shown.{at}
use Rattle.pool_shelf.proofs.Fits.{too_short, whole-front, exact-tail, both-sides}
use Rattle.pool_shelf.proofs.fit_at.Goals.{After-align_address_and_available_size-left}
use Rattle.pool_shelf.proofs.fit_at.Goals as goal

-- what remains, of the range itself
remains : (c : After-align_address_and_available_size-left) → let x = c.args in let r = at x.start.now x.end.now x.i.0 in
    c.align_address_and_available_size-left.result.size ≡ r.start + size r - up x.order r.start
remains c =
    let x = c.args in
    let s = get_or x.start.now x.i.0 0 in
    c.align_address_and_available_size-left.ensures.1 ∙ ap (λ (w : ℕ). s + w - up x.order s) c.get_size-whole.ensures

pub returns-then-left-size : goal.returns-then-left-size
returns-then-left-size c =
    let x = c.args in
    let p = c.requires in
    sym (too_short x.size x.order (at x.start.now x.end.now x.i.0) _ p.size_nonzero.0 p.good.proper (remains (goal.at.returns-then-left-size c).After-align_address_and_available_size-left) c.if-left-size.true)

pub returns-then-left-from : goal.returns-then-left-from
returns-then-left-from c =
    let x = c.args in
    let p = c.requires in
    sym (whole-front x.size x.order (at x.start.now x.end.now x.i.0) _ p.size_nonzero.0 p.good.proper (remains (goal.at.returns-then-left-from c).After-align_address_and_available_size-left) c.if-left-size.false
    (sym c.align_address_and_available_size-left.ensures.0 ∙ c.if-left-from.true))

pub returns-then-left-size-2 : goal.returns-then-left-size-2
returns-then-left-size-2 c =
    let x = c.args in
    let p = c.requires in
    sym (exact-tail x.size x.order (at x.start.now x.end.now x.i.0) _ p.size_nonzero.0 p.good.proper (remains (goal.at.returns-then-left-size-2 c).After-align_address_and_available_size-left)
    (λ e. c.if-left-from.false (c.align_address_and_available_size-left.ensures.0 ∙ e)) c.if-left-size-2.true)

pub returns : goal.returns
returns c =
    let x = c.args in
    let p = c.requires in
    sym (both-sides x.size x.order (at x.start.now x.end.now x.i.0) _ p.size_nonzero.0 p.good.proper (remains (goal.at.returns c).After-align_address_and_available_size-left) c.if-left-size.false
    (λ e. c.if-left-from.false (c.align_address_and_available_size-left.ensures.0 ∙ e)) c.if-left-size-2.false)
