-- Numbers, links and flags in a list of bytes. Assumes nothing.
use Rattle.std.specs.Prelude.{ℕ, zero, suc, ◌+◌, ◌*◌, ◌<◌, ◌≤◌, Bool, true, cond, ◌&&◌, List, leb, eqb, take, drop, get_or}
use Rattle.bytes_be.specs.Numbers.{number}
use Rattle.linked_lists.specs.Links.{none, tab}
use Rattle.image_parts.specs.Layout.{Layout, word, no_link}

-- the number in the k bytes from a on
abbrev pub number_in : List ℕ → ℕ → ℕ → ℕ
number_in l a k = number (take k (drop a l))

-- the link of a number
abbrev pub link_of : Layout → ℕ → ℕ
link_of f x = cond (eqb x (no_link f)) none x

-- n fields of k bytes, from a on and d bytes apart, lie in m bytes
abbrev pub Spaced : ℕ → ℕ → ℕ → ℕ → ℕ → Type 0
Spaced a d k n m = (i : ℕ) → i < n → a + d * i + k ≤ m

-- of n fields from a on, d bytes apart: the numbers, the links and the flags
unfoldable pub numbers_in : List ℕ → ℕ → ℕ → ℕ → List ℕ
numbers_in l a d n = tab n 0 (λ i. number_in l (a + d * i) word)

unfoldable pub links_in : Layout → List ℕ → ℕ → ℕ → ℕ → List ℕ
links_in f l a d n = tab n 0 (λ i. link_of f (number_in l (a + d * i) f.link))

unfoldable pub flags_in : List ℕ → ℕ → ℕ → ℕ → List Bool
flags_in l a d n = tab n 0 (λ i. eqb (get_or l (a + d * i) 0) 1)

-- each of n bytes, the i-th and those after it, is 0 or 1
unfoldable pub bits : List ℕ → ℕ → ℕ → ℕ → ℕ → Bool
bits l a d zero i = true
bits l a d (suc n) i = leb (get_or l (a + d * i) 0) 1 && bits l a d n (suc i)
