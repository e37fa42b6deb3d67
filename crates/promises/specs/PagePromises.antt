-- What is promised of the page calls, by value and over an image; `crates/promises/proofs/PagePromises.antt` shows it. n is the number of records, f a layout.
-- Assumes nothing.
use Rattle.std.specs.Prelude.{ℕ, List, ◌≡◌, length}
use Rattle.pool_state.specs.declared.MemoryAllocator.{MemoryAllocator}
use Rattle.check_meaning.specs.Paragraph.{Sized}
use Rattle.core_serve.specs.Made.{made}
use Rattle.memory_allocator.specs.States.{states}
use Rattle.pages.specs.Calls.{PageCall, byte_call}
use Rattle.pages.specs.Demand.{PageDemand}
use Rattle.pages.specs.States.{page_made, pages_of_states}
use Rattle.image_parts.specs.Layout.{Layout, image_size_lem}
use Rattle.c_over.specs.Images.{images, pages_of_images}

pub record PagePromises (n : ℕ) : Type 0 where
  -- the lines of a page call come to one call in bytes
  pub one-call : (s : MemoryAllocator) → Sized n s → (p : PageCall) → page_made n s p ≡ made n s (byte_call p)
  -- demand 3 in pages
  pub pages-close : PageDemand (states n) (pages_of_states n)

abbrev pub PagesOverImages : Layout → Type 0
PagesOverImages f = (l : List ℕ) → length l ≡ image_size_lem f → PageDemand (images f l) (pages_of_images f l)
