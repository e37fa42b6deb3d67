use mathlib.Core.Path.{ap}
use lib.ListN.{replicate}
use Rattle.holder_rules.specs.Register.{entries, blanks}
use Rattle.holder_rules.specs.declared.Entry.{Entry}
use Rattle.c_calls.proofs.holders.no_entries.Goals as goal

pub returns : goal.returns
unfolding blanks
returns c =
    ap (λ (e : Entry). replicate entries e) c.unused_entry-unused.ensures
