-- What the arrays of the allocator show: the ranges of a book. n is the number of records. Assumes nothing.
use Rattle.std.specs.Prelude.{ℕ, ◌<◌, ◌≤◌, Bool, true, false, ◌≢◌, List, [], ◌∷◌, ◌++◌, ◌≡◌, length, get_or}
use Rattle.linked_lists.specs.Links.{none, head, last_from, after, Listed}
use Rattle.linked_lists.specs.Threads.{Threads, alone, only}
use Rattle.rules.specs.Rules.{records, size_lists, Range, range, size, list_number, of_list, Book}
use Rattle.rules.specs.Sound.{In, Pairwise, Sound, Good, Smaller}
use Rattle.pool_state.specs.declared.MemoryAllocator.{MemoryAllocator}

-- the number of records
abbrev pub pool : ℕ
pool = records

-- the records of a list of ranges
abbrev pub numbers : List Range → List ℕ
numbers [] = []
numbers (r ∷ l) = r.number ∷ numbers l

-- the range in record i
abbrev pub at : List ℕ → List ℕ → ℕ → Range
at start end i = range i (get_or start i 0) (get_or end i 0)

-- the ranges of a list stand in their records
abbrev pub Stand : List Range → List ℕ → List ℕ → Type 0
Stand l start end = (r : Range) → In r l → at start end r.number ≡ r

-- ---- a walk along a list of ranges

-- `next` leads along the list
pub record Runs (n : ℕ) (l : List Range) (start end next : List ℕ) : Type 0 where
  pub good : (r : Range) → In r l → Good n r
  pub stand : Stand l start end
  pub listed : Listed n (numbers l)
  pub nexts : (r : Range) → In r l → get_or next r.number 0 ≡ after (numbers l) r.number

-- a walk, past ranges whose key is below s, has come between records b and a
pub record Walked (key : Range → ℕ) (l : List Range) (s b a : ℕ) : Type 0 where
  pub passed : List Range
  pub rest : List Range
  pub parts : l ≡ passed ++ rest
  pub smaller : (q : Range) → In q passed → key q < s
  pub low : b ≡ last_from none (numbers passed)
  pub high : a ≡ head (numbers rest)

abbrev pub Stops : (Range → ℕ) → ℕ → List Range → Type 0
Stops key s [] = Unit {0}
Stops key s (q ∷ l) = s ≤ key q

-- and goes no further
pub record Gapped (key : Range → ℕ) (l : List Range) (s b a : ℕ) : Type 0 where
  pub walked : Walked key l s b a
  pub stops : Stops key s walked.rest

-- ---- the shelf

-- the list of each record, by its size
abbrev pub key_at : List ℕ → List ℕ → ℕ → ℕ
key_at start end i = list_number (size (at start end i))

pub record Shelved (n : ℕ) (l : List Range) (start end prev next heads : List ℕ) : Type 0 where
  pub start-length : length start ≡ n
  pub end-length : length end ≡ n
  pub sizes : Pairwise Smaller l
  pub good : (r : Range) → In r l → Good n r
  pub stand : Stand l start end
  pub threads : Threads n (key_at start end) (λ k. numbers (of_list k l)) prev next
  pub heads-length : length heads ≡ size_lists
  pub firsts : (k : ℕ) → k < size_lists → get_or heads k 0 ≡ head (numbers (of_list k l))

-- ---- the chain

pub record Chained (n : ℕ) (c : List Range) (first : ℕ) (prev next : List ℕ) : Type 0 where
  pub threads : Threads n alone (only (numbers c)) prev next
  pub leads : first ≡ head (numbers c)

-- ---- the records

-- the records of the chain are in use, and no others
pub record Marked (n : ℕ) (c : List Range) (enabled : List Bool) : Type 0 where
  pub enabled-length : length enabled ≡ n
  pub on : (r : Range) → In r c → get_or enabled r.number false ≡ true
  pub off : (i : ℕ) → i < n → ((r : Range) → In r c → i ≢ r.number) → get_or enabled i false ≡ false

pub record Kept (n : ℕ) (c : List Range) (start end : List ℕ) (enabled : List Bool) : Type 0 where
  pub marked : Marked n c enabled
  pub start-length : length start ≡ n
  pub end-length : length end ≡ n
  pub stand : Stand c start end
  pub clear : (i : ℕ) → i < n → ((r : Range) → In r c → i ≢ r.number) → (get_or start i 0 ≡ 0) × (get_or end i 0 ≡ 0)

-- ---- the whole

-- the arrays of s show the sound book b; the total is not looked at
pub record Shape (n : ℕ) (b : Book) (s : MemoryAllocator) : Type 0 where
  pub sound : Sound n b
  pub kept : Kept n b.chain s.start s.end s.enabled
  pub chained : Chained n b.chain s.first_entry.0 s.previous s.next
  pub shelved : Shelved n b.shelf s.start s.end s.list_prev s.list_next s.free_list
