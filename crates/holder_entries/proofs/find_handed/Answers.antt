use borrow.Author.Tests.{tests}
use Rattle.std.proofs.Common.{rules, ◌∙◌}
use Rattle.std.proofs.lemmas.Iterator.{YieldsList-from_slice}
use Rattle.std.proofs.lemmas.Iterator.Search.{position_from_yields_List}
use Rattle.holder_rules.specs.Register.{hands}
use Rattle.holder_entries.proofs.Turns.{first-found}
use Rattle.holder_entries.proofs.find_handed.Goals as goal

pub returns : goal.returns
returns c =
    let x = c.args in
    let p = hands x.holder.0 x.address.0 x.size in
    first-found p x.register.now.entries _ (position_from_yields_List p _ _ c.position.result c.position.ensures.ran (YieldsList-from_slice x.register.now.entries cc) (λ x b q k. search (rules, tests)))
    _ (λ i w e. search rules) c.map.result c.map.ensures.cases
