-- A sound state: it is the state of the book that its links lead to, and that book is sound. n is the number of records. Assumes nothing.
use Rattle.std.specs.Prelude.{ℕ, List, [], ◌∷◌, ◌++◌, map, ◌≡◌, get_or}
use Rattle.rules.specs.Rules.{Range, Book}
use Rattle.rules.specs.Sound.{Sound}
use Rattle.linked_lists.specs.Links.{follow}
use Rattle.pool_state.specs.Shown.{at}
use Rattle.pool_state.specs.State.{state_of}
use Rattle.pool_state.specs.declared.MemoryAllocator.{MemoryAllocator}

-- the ranges that links lead through from record i, at most n
abbrev pub led : ℕ → MemoryAllocator → List ℕ → ℕ → List Range
led n s links i = map (at s.start s.end) (follow (λ j. get_or links j 0) n i)

-- those of the lists with these heads, joined in order
unfoldable pub joined_lists : ℕ → MemoryAllocator → List ℕ → List Range
joined_lists n s [] = []
joined_lists n s (h ∷ hs) = led n s s.list_next h ++ joined_lists n s hs

-- the book that the links of a state lead to
unfoldable pub book_of : ℕ → MemoryAllocator → Book
book_of n s = record { chain = led n s s.next s.first_entry.0; shelf = joined_lists n s s.free_list }

pub record SoundState (n : ℕ) (s : MemoryAllocator) : Type 0 where
  pub book : Sound n (book_of n s)
  pub state : state_of n (book_of n s) ≡ s
