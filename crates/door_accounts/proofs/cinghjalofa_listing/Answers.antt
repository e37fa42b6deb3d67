use mathlib.Core.Path.{sym, ◌∙◌}
use mir.Syntax.{w64}
use mir.Facts.{to_z-of_z}
use Rattle.image_parts.specs.Layout.{current}
use Rattle.image_parts.proofs.Lawful.{lawful-current}
use Rattle.door_accounts.proofs.Ways.{unreadable-lists, ordered-in, lists-in}
use Rattle.door_accounts.proofs.cinghjalofa_listing.Goals as goal

pub read_current-is_image-requires : goal.read_current-is_image-requires
read_current-is_image-requires c =
    c.new-ranges.ensures

pub list_signed-requires : goal.list_signed-requires
list_signed-requires c =
    let here = c in
    let read = here.read_current-is_image.ensures in
    (_, ordered-in current _ lawful-current (sym read.told ∙ here.if-is_image.true) _ (read.state here.if-is_image.true))

pub returns-then-is_image : goal.returns-then-is_image
returns-then-is_image c =
    let listed = c in
    let here = listed in
    let read = here.read_current-is_image.ensures in
    let on = sym read.told ∙ here.if-is_image.true in
    let held = read.state here.if-is_image.true in
    lists-in current _ lawful-current on _ held _ _ _ _ _ _ (to_z-of_z {w = w64} (record { sfits = listed.list_signed.type_inv })) (listed.list_signed.ensures _ (ordered-in current _ lawful-current on _ held))

pub returns : goal.returns
returns c =
    unreadable-lists current _ (sym c.read_current-is_image.ensures.told ∙ c.if-is_image.false) _ _
