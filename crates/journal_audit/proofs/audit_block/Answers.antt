use mathlib.Core.Logic.{⊎_elim}
use mathlib.Core.Path.{refl}
use lib.Dec.{lit≤}
use Rattle.pool_state.specs.Shown.{pool}
use Rattle.journal_audit.proofs.Ways.{block-judged, fault-judged}
use Rattle.journal_audit.proofs.audit_block.Goals as goal

pub returns-in-Call : goal.returns-in-Call
returns-in-Call c =
    block-judged pool _ _ _ _ _ c.read_block.ensures _ c.in-Call.is _ c.audit_call.ensures

pub returns-in-End : goal.returns-in-End
returns-in-End c =
    ⊎_elim
    (λ e. fault-judged pool (lit≤ tt) _ _ _ c.requires.fields _ _ c.read_block.ensures _ e _ refl)
    (λ e. fault-judged pool (lit≤ tt) _ _ _ c.requires.fields _ _ c.read_block.ensures _ e _ refl)
    c.in-End.is

pub returns-in-UnknownCall : goal.returns-in-UnknownCall
returns-in-UnknownCall c =
    fault-judged pool (lit≤ tt) _ _ _ c.requires.fields _ _ c.read_block.ensures _ c.in-UnknownCall.is _ refl

pub returns-in-WrongLength : goal.returns-in-WrongLength
returns-in-WrongLength c =
    fault-judged pool (lit≤ tt) _ _ _ c.requires.fields _ _ c.read_block.ensures _ c.in-WrongLength.is _ refl
