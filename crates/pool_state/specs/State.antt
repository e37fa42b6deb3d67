-- The state that holds a book. n is the number of records. Assumes nothing.
use Rattle.std.specs.Prelude.{ℕ, suc, ◌-◌, Bool, true, false, List, ◌≡◌, eqb}
use Rattle.std.proofs.Math.Option.{Option, none, some}
use Rattle.rules.specs.Rules.{size_lists, Range, Book, total, find, list_number, of_list}
use Rattle.linked_lists.specs.Links.{head, before, after, tab}
use Rattle.pool_state.specs.Shown.{Shape, numbers}
use Rattle.pool_state.specs.declared.MemoryAllocator.{MemoryAllocator}

-- the state of these arrays
abbrev pub arrays : ℕ → ℕ → List ℕ → List ℕ → List ℕ → List Bool → List ℕ → List ℕ → List ℕ → List ℕ → MemoryAllocator
arrays total first heads start end enabled previous next lprev lnext =
    record {
      free_size = total;
      first_entry = record { 0 = first };
      free_list = heads;
      start = start;
      end = end;
      enabled = enabled;
      previous = previous;
      next = next;
      list_prev = lprev;
      list_next = lnext;
    }

-- the state holds the sound book b
pub record Holds (n : ℕ) (b : Book) (s : MemoryAllocator) : Type 0 where
  pub shape : Shape n b s
  pub counts : s.free_size ≡ total b

-- ---- the one state that holds a book

-- the range in record i
unfoldable pub in_record : Book → ℕ → Option Range
in_record b i = find (λ r. eqb i r.number) b.chain

abbrev pub start_in : Option Range → ℕ
start_in none = 0
start_in (some r) = r.start

abbrev pub last_in : Option Range → ℕ
last_in none = 0
last_in (some r) = r.last

abbrev pub used_in : Option Range → Bool
used_in none = false
used_in (some r) = true

-- the list of a record's size
abbrev pub list_in_lem : Option Range → ℕ
list_in_lem o = list_number (suc (last_in o) - start_in o)

unfoldable pub state_of : ℕ → Book → MemoryAllocator
state_of n b =
    arrays (total b) (head (numbers b.chain))
    (tab size_lists 0 (λ k. head (numbers (of_list k b.shelf))))
    (tab n 0 (λ i. start_in (in_record b i)))
    (tab n 0 (λ i. last_in (in_record b i)))
    (tab n 0 (λ i. used_in (in_record b i)))
    (tab n 0 (λ i. before (numbers b.chain) i))
    (tab n 0 (λ i. after (numbers b.chain) i))
    (tab n 0 (λ i. before (numbers (of_list (list_in_lem (in_record b i)) b.shelf)) i))
    (tab n 0 (λ i. after (numbers (of_list (list_in_lem (in_record b i)) b.shelf)) i))
