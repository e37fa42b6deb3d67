use Prim.Native.Nat.{◌-◌}
use native.Mathlib.Omega.{arith}
use lib.ListN.{length}
use Rattle.image_parts.specs.Layout.{current}
use Rattle.holder_image.specs.Layout.{memory_at}
use Rattle.holder_images.proofs.Ways.{wrong-length, unsound, both-written}
use Rattle.holder_images.proofs.write.write_holders_image.Goals as goal

pub returns-then-image-ne-HOLDERS_IMAGE : goal.returns-then-image-ne-HOLDERS_IMAGE
returns-then-image-ne-HOLDERS_IMAGE c =
    wrong-length current _ _ _ c.if-image-ne-HOLDERS_IMAGE.true

pub is_sound_with-requires : goal.is_sound_with-requires
is_sound_with-requires c =
    tt

pub returns-then-is_sound_with : goal.returns-then-is_sound_with
returns-then-is_sound_with c =
    let front = c in let memory = front in let sound = memory in let sized = sound in
    let x = sized.args in let h = sized.if-image-ne-HOLDERS_IMAGE.false in
    both-written current x.s x.lowest x.image.now h _ sound.is_sound_with.ensures sound.if-is_sound_with.true (length x.image.now - memory_at) (omega arith) _ memory.write_account.ensures _ front.write_front.ensures

pub returns : goal.returns
returns c =
    unsound current _ _ _ c.if-image-ne-HOLDERS_IMAGE.false _ c.is_sound_with.ensures c.if-is_sound_with.false
