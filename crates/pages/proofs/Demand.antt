-- Demand 3 in pages of the page calls on a state by value. Assumes nothing.
use Prim.Native.Nat.{ℕ, ◌≤◌}
use mathlib.Core.Path.{ap}
use Rattle.linked_lists.specs.Links.{none}
use Rattle.check_meaning.proofs.Exact.{sound-sized}
use Rattle.calls.specs.declared.Outcome.{Outcome}
use Rattle.calls.specs.Calls.{voucher_of}
use Rattle.memory_allocator.specs.States.{states}
use Rattle.memory_allocator.proofs.Demand.{obeys}
use Rattle.pages.specs.Calls.{byte_call}
use Rattle.pages.specs.Demand.{PageDemand}
use Rattle.pages.specs.States.{pages_of_states}
use Rattle.pages.proofs.Same.{page-same}
use Rattle.pages.proofs.Paged.{page-demand}

pub demand : (n : ℕ) → n ≤ none → PageDemand (states n) (pages_of_states n)
demand n small = page-demand (obeys n small) (pages_of_states n) (record {
  answers = λ p s h. ap (λ (r : Outcome). voucher_of (byte_call p) r.answer) (page-same n small s (sound-sized n small s h) p);
  leaves = λ p s h. ap (λ (r : Outcome). r.state) (page-same n small s (sound-sized n small s h) p);
})
