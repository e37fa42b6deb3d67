use mathlib.Core.Path.{sym, ap}
use Rattle.core_accounts.specs.Accounts.{listed_answer}
use Rattle.core_accounts.proofs.answer_listed.Goals as goal

pub returns-in-Some : goal.returns-in-Some
returns-in-Some c =
    ap listed_answer (sym c.in-Some.is)

pub returns-in-None : goal.returns-in-None
returns-in-None c =
    ap listed_answer (sym c.in-None.is)
