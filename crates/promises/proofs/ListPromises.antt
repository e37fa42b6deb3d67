-- The promises of lists of calls, each where it is proved. Assumes nothing.
use Prim.Native.Nat.{ℕ, ◌≤◌}
use Rattle.linked_lists.specs.Links.{none}
use Rattle.batch.proofs.Cuts.{cut, single-left, single-answer}
use Rattle.batch.proofs.Histories.{lists-demand, lists-lowest}
use Rattle.image_parts.specs.Layout.{current}
use Rattle.image_parts.proofs.Lawful.{figured-current}
use Rattle.c_over.proofs.Batches as over-images
use Rattle.promises.specs.ListPromises.{ListPromises, ImageListPromises}
use Rattle.promises.proofs.Images.{all-calls-demand, all-calls-lowest}

pub list-promises : (n : ℕ) → n ≤ none → ListPromises n
list-promises n small = record {
  cuts = λ s h b k fits few. cut b fits k few n small s h;
  one_left = λ s h b fits q e. single-left n small s h b fits q e;
  one_answer = λ s h b fits q e. single-answer n small s h b fits q e;
  lists-close = lists-demand n small;
  lists-lowest = lists-lowest n small;
}

pub image-list-promises : ImageListPromises current
image-list-promises = record {
  cuts = λ l s h b k fits few. over-images.cut-image current figured-current l s h b k fits few;
  lists-close = λ l sized. over-images.lists-demand current figured-current l sized;
  all-close = all-calls-demand current figured-current;
  all-lowest = all-calls-lowest current figured-current;
}
