use mathlib.Core.Bool.{not}
use mathlib.Core.Path.{ap}
use mathlib.Core.Path.{sym, ◌∙◌}
use borrow.Author.Tests.{not-true, not-false}
use Rattle.check_records.proofs.Tests.{false-and, and-of}
use Rattle.check_records.proofs.Records.{records-proper}
use Rattle.check_state.proofs.Whole.{sound-of}
use Rattle.check_state.proofs.links_ok.Goals as goal

pub chain_ok-requires : goal.chain_ok-requires
chain_ok-requires c =
    records-proper _ _ _ _ _ _ _ _ _ c.requires

pub returns-then-not-chain_ok : goal.returns-then-not-chain_ok
returns-then-not-chain_ok c =
    sym (sound-of _ _ _ c.requires ∙ false-and _ _ (sym c.chain_ok.ensures ∙ not-true c.chain_ok.result (ap not c.if-not-chain_ok.true)))

pub lists_ok-requires : goal.lists_ok-requires
lists_ok-requires c =
    records-proper _ _ _ _ _ _ _ _ _ c.requires

pub returns : goal.returns
returns c =
    c.lists_ok.ensures ∙ sym (sound-of _ _ _ c.requires ∙ and-of _ _ (sym c.chain_ok.ensures ∙ not-false c.chain_ok.result (ap not c.if-not-chain_ok.false)))
