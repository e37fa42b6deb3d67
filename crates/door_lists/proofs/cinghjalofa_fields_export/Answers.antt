use Rattle.std.specs.Prelude.{Ok, Err}
use Rattle.linked_lists.proofs.Laws.{true≢false}
use Rattle.image_parts.specs.Layout.{current}
use Rattle.image.specs.Writing.{invalid}
use Rattle.image.proofs.Ways.{wrong-length, unsound, done}
use Rattle.door_lists.proofs.Ways.{exported}
use Rattle.door_lists.proofs.cinghjalofa_fields_export.Goals as goal

pub returns-then-image-ne-IMAGE : goal.returns-then-image-ne-IMAGE
returns-then-image-ne-IMAGE c =
    exported current _ _ _ (Err invalid) (wrong-length current _ _ c.if-image-ne-IMAGE.true)

pub write_fields-requires : goal.write_fields-requires
write_fields-requires c =
    record { image_len = c.if-image-ne-IMAGE.false; stands = λ e. true≢false e }

pub returns-then-is_sound_account : goal.returns-then-is_sound_account
returns-then-is_sound_account c =
    let taken = c in
    let checked = taken in
    exported current _ _ _ (Ok tt) (done current _ _ checked.if-image-ne-IMAGE.false _ checked.is_sound_account.ensures _ taken.if-is_sound_account.true c.write_fields.ensures)

pub returns : goal.returns
returns c =
    let checked = c in
    exported current _ _ _ (Err invalid) (unsound current _ _ checked.if-image-ne-IMAGE.false _ checked.is_sound_account.ensures c.if-is_sound_account.false)
