use borrow.Author.Tests.{tests}
use Rattle.std.proofs.Common.{rules, ◌∙◌}
use Rattle.std.proofs.lemmas.Iterator.{YieldsList-from_slice}
use Rattle.std.proofs.lemmas.Iterator.Search.{position_from_yields_List}
use Rattle.holder_rules.specs.Register.{free}
use Rattle.holder_entries.proofs.Turns.{first-found}
use Rattle.holder_entries.proofs.find_unused.Goals as goal

pub returns : goal.returns
returns c =
    let l = c.args.register.now.entries in
    first-found free l _ (position_from_yields_List free _ _ c.position.result c.position.ensures.ran (YieldsList-from_slice l cc) (λ x b q k. search (rules, tests)))
    _ (λ i w e. search rules) c.map.result c.map.ensures.cases
