use mathlib.Core.Path.{refl}
use Rattle.journal_calls.proofs.Ways.{reports}
use Rattle.journal_calls.proofs.audit_journal.Goals as goal

pub returns-in-Agrees : goal.returns-in-Agrees
returns-in-Agrees c =
    reports _ _ c.audit.ensures _ c.in-Agrees.is _ _ _ (record { number = refl; figure = refl })

pub returns-in-Differs : goal.returns-in-Differs
returns-in-Differs c =
    reports _ _ c.audit.ensures _ c.in-Differs.is _ _ _ (record { number = refl; figure = refl })

pub returns-in-Truncated : goal.returns-in-Truncated
returns-in-Truncated c =
    reports _ _ c.audit.ensures _ c.in-Truncated.is _ _ _ (record { number = refl; figure = refl })

pub returns-in-UnknownCall : goal.returns-in-UnknownCall
returns-in-UnknownCall c =
    reports _ _ c.audit.ensures _ c.in-UnknownCall.is _ _ _ (record { number = refl; figure = refl })

pub returns-in-WrongLength : goal.returns-in-WrongLength
returns-in-WrongLength c =
    reports _ _ c.audit.ensures _ c.in-WrongLength.is _ _ _ (record { number = refl; figure = refl })

pub returns-in-NoVersion : goal.returns-in-NoVersion
returns-in-NoVersion c =
    reports _ _ c.audit.ensures _ c.in-NoVersion.is _ _ _ (record { number = refl; figure = refl })
