use borrow.Author.Tests.{tests}
use Rattle.std.proofs.Common.{rules}
use Rattle.holder_rules.specs.Sound.{is_good_lem}
use Rattle.holder_check.proofs.is_good.Goals as goal

pub returns-then-e-eq0 : goal.returns-then-e-eq0
unfolding is_good_lem
returns-then-e-eq0 c = search (rules, tests)

pub returns-else-e-eq0 : goal.returns-else-e-eq0
unfolding is_good_lem
returns-else-e-eq0 c = search (rules, tests)

pub returns-then-e : goal.returns-then-e
unfolding is_good_lem
returns-then-e c = search (rules, tests)

pub returns-else-e : goal.returns-else-e
unfolding is_good_lem
returns-else-e c = search (rules, tests)
