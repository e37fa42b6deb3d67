-- The promises of images and of the C calls, each where it is proved. Assumes nothing.
use Rattle.image_parts.specs.Layout.{Layout, current, Figured}
use Rattle.image_parts.proofs.Lawful.{figured-current}
use Rattle.image.proofs.Rounds.{read_same, written_read, refused-exactly}
use Rattle.c_over.proofs.Demand.{new-written}
use Rattle.c_over.proofs.Refusals.{refusal-unchanged, wrong-length, no-image}
use Rattle.promises.specs.ImagePromises.{ImagePromises}
use Rattle.promises.proofs.Images.{images-demand, images-lowest}

pub of-layout : (f : Layout) → Figured f → ImagePromises f
of-layout f full = record {
  read-written = read_same f full;
  written_read = written_read f full.lawful;
  refused-exactly = refused-exactly f full.lawful;
  new-written = new-written f full;
  refused-same = λ c l. refusal-unchanged f l c;
  wrong-length = λ c l. wrong-length f l c;
  no-image = λ c l bytes none. no-image f l full.lawful bytes none c;
  books-close = images-demand f full;
  lowest-counted = images-lowest f full;
}

pub image-promises : ImagePromises current
image-promises = of-layout current figured-current
