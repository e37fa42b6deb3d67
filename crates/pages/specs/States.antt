-- The two page calls on a state by value, as a door of the allocator. n is the number of records. Assumes nothing.
use Rattle.std.specs.Prelude.{ℕ}
use Rattle.pool_state.specs.declared.MemoryAllocator.{MemoryAllocator}
use Rattle.calls.specs.declared.Outcome.{Outcome}
use Rattle.calls.specs.Calls.{voucher_of}
use Rattle.memory_allocator.specs.States.{states}
use Rattle.pages.specs.Pages.{allocate_pages_of, free_pages_of}
use Rattle.pages.specs.Calls.{PageCall, AllocatePages, FreePages, byte_call, Door}

-- what the call of a function of this crate answers and leaves
abbrev pub page_made : ℕ → MemoryAllocator → PageCall → Outcome
page_made n s (AllocatePages c o) = allocate_pages_of n s c o
page_made n s (FreePages a c) = free_pages_of n s a c

abbrev pub pages_of_states : (n : ℕ) → Door (states n)
pages_of_states n = record {
  answer = λ p s. voucher_of (byte_call p) (page_made n s p).answer;
  next = λ p s. (page_made n s p).state;
}
