use mathlib.Core.Path.{sym, ap, ◌∙◌}
use Rattle.image.specs.Writing.{ImageAnswer}
use Rattle.c_over.specs.CCalls.{returned}
use Rattle.c_calls.proofs.Signed.{code_of, upgrade-told}
use Rattle.c_calls.proofs.upgrade.cinghjalofa_upgrade.Goals as goal

pub returns-in-Ok : goal.returns-in-Ok
returns-in-Ok c =
    let made = c in
    let start = made in
    ap (λ (a : ImageAnswer). returned (code_of a) made.upgrade_image.new.image) (sym c.in-Ok.is) ∙ upgrade-told start.args.old.now start.args.image.now _ made.upgrade_image.result made.upgrade_image.ensures

pub returns-in-Err : goal.returns-in-Err
returns-in-Err c =
    let made = c in
    let start = made in
    ap (λ (a : ImageAnswer). returned (code_of a) made.upgrade_image.new.image) (sym c.in-Err.is) ∙ upgrade-told start.args.old.now start.args.image.now _ made.upgrade_image.result made.upgrade_image.ensures
