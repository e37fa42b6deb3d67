use borrow.Author.Tests.{tests}
use Prim.Native.Nat.{◌+◌}
use mathlib.Core.Bool.{◌&&◌}
use lib.ListN.{drop}
use Rattle.std.proofs.Common.{rules, ◌∙◌}
use Rattle.std.proofs.lemmas.Iterator.{YieldsList-from_slice}
use Rattle.std.proofs.lemmas.Iterator.Adapters.{YieldsList-from_skip}
use Rattle.std.proofs.lemmas.Iterator.Search.{any_from_yields_List}
use Rattle.rules.specs.Rules.{meets}
use Rattle.holder_rules.specs.Register.{used, range_of}
use Rattle.holder_entries.proofs.Turns.{any_is}
use Rattle.holder_entries.proofs.meets_held.Goals as goal

pub returns : goal.returns
returns c =
    let x = c.args in
    let p = meets x.address.0 (x.address.0 + x.size) in
    any_from_yields_List (λ e. used e && p (range_of e)) _ _ _ c.any.ensures.ran (YieldsList-from_skip x.from (YieldsList-from_slice x.register.now.entries cc) cc) (λ x b q k. search (rules, tests)) ∙ any_is p (drop x.from x.register.now.entries)
