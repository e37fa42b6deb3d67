use mathlib.Core.Bool.{not}
use mathlib.Core.Path.{ap}
use borrow.Author.Tests.{not-true, not-false}
use mathlib.Core.Path.{sym, ◌∙◌}
use Rattle.check_links.proofs.Steps.{follows-true, chain-unfollowed, chain-tested}
use Rattle.check_links.proofs.chain_step.Goals as goal

pub returns-then-not-follows : goal.returns-then-not-follows
returns-then-not-follows c =
    sym (chain-unfollowed _ _ _ _ _ _ _ (sym c.follows.ensures ∙ not-true c.follows.result (ap not c.if-not-follows.true)))

pub bounds-start-n : goal.bounds-start-n
bounds-start-n c =
    (follows-true _ _ _ _ _ (sym c.follows.ensures ∙ not-false c.follows.result (ap not c.if-not-follows.false))).0

pub returns : goal.returns
returns c =
    sym (chain-tested _ _ _ _ _ _ _ (sym c.follows.ensures ∙ not-false c.follows.result (ap not c.if-not-follows.false)))
