-- The C call for a list of calls, as a door for lists of lists. Assumes nothing.
use Rattle.std.specs.Prelude.{ℕ, List, length}
use Rattle.batch.specs.Histories.{Door}
use Rattle.image_parts.specs.Layout.{Layout}
pub use Rattle.image_calls.specs.Lists.{BatchOver}
unfoldable pub use Rattle.image_calls.specs.Lists.{list_over_lem, answers_over}
use Rattle.c_over.specs.Images.{images}

abbrev pub image_door : (f : Layout) (l : List ℕ) → Door (images f l)
image_door f l = record {
  answers = λ b m. answers_over f b.words b.places m;
  next = λ b m. (list_over_lem f b.words (length b.places) m).bytes;
}
