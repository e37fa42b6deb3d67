-- Document 01's paragraph "A sound state", clause by clause, over the arrays of a state. n is the number of records. Assumes nothing.
use Rattle.std.specs.Prelude.{ℕ, suc, ◌<◌, ◌≤◌, true, false, ◌≢◌, ◌⊎◌, ◌↔◌, List, [], ◌∷◌, map, ◌≡◌, length, get_or}
use Rattle.linked_lists.specs.Links.{none, has}
use Rattle.rules.specs.Rules.{top, size_lists, size, sum}
use Rattle.pool_state.specs.Shown.{at, key_at}
use Rattle.pool_state.specs.declared.MemoryAllocator.{MemoryAllocator}

-- the arrays have the places that their types say
pub record Sized (n : ℕ) (s : MemoryAllocator) : Type 0 where
  pub heads : length s.free_list ≡ size_lists
  pub start : length s.start ≡ n
  pub end : length s.end ≡ n
  pub enabled : length s.enabled ≡ n
  pub previous : length s.previous ≡ n
  pub next : length s.next ≡ n
  pub list_prev : length s.list_prev ≡ n
  pub list_next : length s.list_next ≡ n

-- none, or the number of a record
abbrev pub Link : ℕ → ℕ → Type 0
Link n i = (i ≡ none) ⊎ (i < n)

-- from i the links meet the numbers of the list, and end
abbrev pub Leads : List ℕ → ℕ → List ℕ → Type 0
Leads links i [] = i ≡ none
Leads links i (x ∷ xs) = (i ≡ x) × Leads links (get_or links x 0) xs

-- each number's link is the number before it; the first's is q
abbrev pub Back : List ℕ → ℕ → List ℕ → Type 0
Back links q [] = Unit {0}
Back links q (x ∷ xs) = (get_or links x 0 ≡ q) × Back links x xs

-- R of each number and each one after it
abbrev pub InOrder : (ℕ → ℕ → Type 0) → List ℕ → Type 0
InOrder R [] = Unit {0}
InOrder R (x ∷ xs) = ((y : ℕ) → has y xs ≡ true → R x y) × InOrder R xs

pub record Meets (n : ℕ) (These : ℕ → Type 0) (R : ℕ → ℕ → Type 0) (next previous : List ℕ) (i : ℕ) : Type 0 where
  pub list : List ℕ
  -- from i, `next` meets them and ends
  pub leads : Leads next i list
  -- exactly these records
  pub exactly : (x : ℕ) → (has x list ≡ true) ↔ ((x < n) × These x)
  -- once
  pub once : InOrder (λ x y. x ≢ y) list
  -- in this order
  pub order : InOrder R list
  -- `previous` is the reverse
  pub reverse : Back previous none list

abbrev pub Enabled : MemoryAllocator → ℕ → Type 0
Enabled s i = get_or s.enabled i false ≡ true

-- by address, no two overlapping or touching
abbrev pub ByAddress : MemoryAllocator → ℕ → ℕ → Type 0
ByAddress s x y = suc (get_or s.end x 0) < get_or s.start y 0

-- sizes never falling
abbrev pub BySize : MemoryAllocator → ℕ → ℕ → Type 0
BySize s x y = size (at s.start s.end x) ≤ size (at s.start s.end y)

-- the record equals the fresh one
pub record Fresh (s : MemoryAllocator) (i : ℕ) : Type 0 where
  pub start : get_or s.start i 0 ≡ 0
  pub end : get_or s.end i 0 ≡ 0
  pub previous : get_or s.previous i 0 ≡ none
  pub next : get_or s.next i 0 ≡ none
  pub list_prev : get_or s.list_prev i 0 ≡ none
  pub list_next : get_or s.list_next i 0 ≡ none

pub record Links (n : ℕ) (s : MemoryAllocator) (i : ℕ) : Type 0 where
  pub previous : Link n (get_or s.previous i 0)
  pub next : Link n (get_or s.next i 0)
  pub list_prev : Link n (get_or s.list_prev i 0)
  pub list_next : Link n (get_or s.list_next i 0)

pub record Paragraph (n : ℕ) (s : MemoryAllocator) : Type 0 where
  pub sized : Sized n s
  -- "First, heads and links are none or 0 to 63." (of 64 records; here none or below n)
  pub first : Link n s.first_entry.0
  pub heads : (k : ℕ) → k < size_lists → Link n (get_or s.free_list k 0)
  pub links : (i : ℕ) → i < n → Links n s i
  -- "From the first record, `next` meets exactly the enabled records, once, by address, no two overlapping or touching, and ends; `previous` is the reverse."
  pub chain : Meets n (Enabled s) (ByAddress s) s.next s.previous s.first_entry.0
  -- "From head k, `list_next` meets exactly the enabled records of list number k, once, sizes never falling; `list_prev` is the reverse."
  pub lists : (k : ℕ) → k < size_lists
      → Meets n (λ i. Enabled s i × (key_at s.start s.end i ≡ k)) (BySize s) s.list_next s.list_prev (get_or s.free_list k 0)
  -- "Each enabled record has id = its index and start <= end < 2^63." (A record has no number beside its index.)
  pub proper : (i : ℕ) → i < n → Enabled s i → (get_or s.start i 0 ≤ get_or s.end i 0) × (get_or s.end i 0 < top)
  -- "An unused record equals the fresh one"
  pub unused : (i : ℕ) → i < n → get_or s.enabled i false ≡ false → Fresh s i
  -- "The stored total is the sum of sizes."
  pub total : s.free_size ≡ sum (map (at s.start s.end) chain.list)
