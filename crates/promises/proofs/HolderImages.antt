-- The image with a register, and the C calls over it, are those by value. Assumes nothing.
use Prim.Native.Nat.{◌^◌, ◌<◌}
use native.Mathlib.Omega.{arith}
use Rattle.image_parts.specs.Layout.{Layout, Figured, current, length_size}
use Rattle.image_parts.proofs.Lawful.{figured-current}
use Rattle.holder_image.specs.Layout.{rest_of}
use Rattle.holder_images.proofs.Rounds.{refused-exactly}
use Rattle.promises.specs.HolderImages.{HolderImagePromises}
use Rattle.promises.proofs.HolderServed.{read-served, refused_over}
use Rattle.promises.proofs.HolderCalls.{by_value, sound-left, new-by-value}
use Rattle.promises.proofs.HolderLowest.{lowest-counted, lowest-from}

pub of-layout : (f : Layout) → Figured f → rest_of f < 256 ^ length_size → HolderImagePromises f
of-layout f full small = record {
  read-served = read-served f;
  no-image = λ c l bytes none. refused_over f l c ((refused-exactly f full small l bytes).1 none);
  by_value = by_value f full small;
  sound-left = sound-left f full small;
  new-by-value = new-by-value f full small;
  lowest-counted = lowest-counted f full small;
  lowest-from = lowest-from f full small;
}

pub holder-image-promises : HolderImagePromises current
holder-image-promises = of-layout current figured-current (omega arith)
