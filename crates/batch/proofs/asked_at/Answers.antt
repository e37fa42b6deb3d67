use mathlib.Core.Path.{sym, ◌∙◌}
use lib.ListN.{get_or-eq_default}
use native.Mathlib.Omega.{arith}
use Rattle.std.specs.Prelude.{None}
use Rattle.batch.specs.InWords.{asked}
use Rattle.batch.proofs.InWords.{asked-length}
use Rattle.batch.proofs.asked_at.Goals as goal

pub words_at-words-requires : goal.words_at-words-requires
words_at-words-requires c =
    omega (arith, asked-length c.args.calls.now)

pub returns-then-k-calls : goal.returns-then-k-calls
returns-then-k-calls c =
    c.asked_by.ensures ∙ c.words_at-words.ensures

pub returns : goal.returns
returns c =
    let calls = c.args.calls.now in
    sym (get_or-eq_default (asked calls) None (omega (arith, asked-length calls)))
