use Rattle.image_parts.specs.Layout.{current}
use Rattle.image.proofs.Ways.{wrong-length, unsound, done}
use Rattle.image.proofs.write.write_image.Goals as goal

pub returns-then-image-ne-IMAGE : goal.returns-then-image-ne-IMAGE
returns-then-image-ne-IMAGE c =
    wrong-length current _ _ c.if-image-ne-IMAGE.true

pub returns-then-is_sound : goal.returns-then-is_sound
returns-then-is_sound c =
    let taken = c in
    let sized = taken in
    done current _ _ sized.if-image-ne-IMAGE.false _ taken.is_sound.ensures _ taken.if-is_sound.true c.write_account.ensures

pub returns : goal.returns
returns c =
    unsound current _ _ c.if-image-ne-IMAGE.false _ c.is_sound.ensures c.if-is_sound.false
