use mathlib.Core.Path.{refl}
use mir.Syntax.{w64}
use mir.Facts.{to_z-of_z}
use Rattle.journal_calls.proofs.Ways.{same_number, written-call}
use Rattle.journal_calls.proofs.write_entry.Goals as goal

pub returns-in-Some : goal.returns-in-Some
returns-in-Some c =
    let put = c in
    let request = put in
    let asked = request in
    same_number _ _ _ _ (to_z-of_z {w = w64} (record { sfits = put.put_entry.type_inv }))
    (written-call _ _ _ _ _ _ _ _ asked.asked_at.ensures _ request.in-Some.is _ put.put_entry.ensures)

pub returns-in-None : goal.returns-in-None
returns-in-None c =
    let asked = c in
    written-call _ _ _ _ _ _ _ _ asked.asked_at.ensures _ c.in-None.is _ refl
