-- The promises of the page calls, each where it is proved. Assumes nothing.
use Prim.Native.Nat.{ℕ, ◌≤◌}
use Rattle.linked_lists.specs.Links.{none}
use Rattle.pages.proofs.Same.{page-same}
use Rattle.pages.proofs.Demand.{demand}
use Rattle.image_parts.specs.Layout.{current}
use Rattle.image_parts.proofs.Lawful.{figured-current}
use Rattle.c_over.proofs.Pages.{pages-demand}
use Rattle.promises.specs.PagePromises.{PagePromises, PagesOverImages}

pub page-promises : (n : ℕ) → n ≤ none → PagePromises n
page-promises n small = record { one-call = page-same n small; pages-close = demand n small }

pub pages-over-images : PagesOverImages current
pages-over-images = pages-demand current figured-current
