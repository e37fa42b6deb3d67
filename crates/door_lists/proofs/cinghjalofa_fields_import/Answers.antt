use mathlib.Core.Path.{sym, ap, ◌∙◌}
use Rattle.account_state.specs.declared.Account.{Account}
use Rattle.image_parts.specs.Layout.{current}
use Rattle.door_lists.proofs.Ways.{import-done, import-refused}
use Rattle.door_lists.proofs.cinghjalofa_fields_import.Goals as goal

pub read_current-again-requires : goal.read_current-again-requires
read_current-again-requires c =
    let cleared = c in
    ap (λ (a : Account). a.ranges) cleared.clear.ensures

pub returns-then-is_image : goal.returns-then-is_image
returns-then-is_image c =
    let cleared = c in
    let here = cleared in
    let on = sym here.is_image.ensures ∙ here.if-is_image.true in
    let read = c.read_current-again.ensures in
    import-done current _ _ on _ (read.state (read.told ∙ on))

pub returns : goal.returns
returns c =
    import-refused current _ _ (sym c.is_image.ensures ∙ c.if-is_image.false)
