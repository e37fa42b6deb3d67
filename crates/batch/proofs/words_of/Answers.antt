use mathlib.Core.Path.{sym, ap}
use Rattle.batch.specs.InWords.{words_of_lem}
use Rattle.batch.proofs.words_of.Goals as goal

pub returns-in-Allocate : goal.returns-in-Allocate
returns-in-Allocate c =
    sym (ap words_of_lem c.in-Allocate.is)

pub returns-in-Reserve : goal.returns-in-Reserve
returns-in-Reserve c =
    sym (ap words_of_lem c.in-Reserve.is)

pub returns-in-Free : goal.returns-in-Free
returns-in-Free c =
    sym (ap words_of_lem c.in-Free.is)
