-- The free ranges of the allocator in an image, by address, and the pages that they touch. Assumes nothing.
use Rattle.std.specs.Prelude.{Bool, true, false, ◌&&◌, ◌||◌, Option, None, List, ◌≡◌, ℕ, zero, suc, ◌+◌, ◌/◌, ◌<◌, leb, ltb, length, get_or}
use Rattle.rules.specs.Rules.{Range}
use Rattle.pool_state.specs.Shown.{pool}
use Rattle.pool_state.specs.Sound.{book_of}
use Rattle.pool_listing.specs.Listing.{Lists}
use Rattle.image_parts.specs.Layout.{current}
use Rattle.image_reading.specs.Reading.{state_in_lem, readable}
use Rattle.mapper_laws.specs.Tree.{some}

abbrev pub chain_in : List ℕ → List Range
chain_in l = (book_of pool (state_in_lem current l)).chain

-- the ranges are listed in two slices; of the image of no sound state there is no listing
pub record Frees (l starts lasts : List ℕ) (r : Option ℕ) (starts' lasts' : List ℕ) : Type 0 where
  pub unsound : readable current l ≡ false → r ≡ None
  pub sound : readable current l ≡ true → Lists (chain_in l) starts lasts r starts' lasts'

-- ---- n ranges, the i-th from the i-th start to the i-th last byte

unfoldable pub every : ℕ → (ℕ → Bool) → Bool
every zero f = true
every (suc n) f = every n f && f n

-- all of their bytes are among those from low to before high
abbrev pub inside_of : ℕ → ℕ → List ℕ → List ℕ → ℕ → Bool
inside_of low high S L i = leb low (get_or S i 0) && ltb (get_or L i 0) high

abbrev pub all_inside : ℕ → ℕ → List ℕ → List ℕ → ℕ → Bool
all_inside low high S L n = every n (inside_of low high S L)

-- page p has a byte of them
abbrev pub touches_at : List ℕ → List ℕ → ℕ → ℕ → Bool
touches_at S L p i = leb (get_or S i 0 / 4096) p && leb p (get_or L i 0 / 4096)

abbrev pub touches : List ℕ → List ℕ → ℕ → ℕ → Bool
touches S L n p = some n (touches_at S L p)

-- m has the marks that it had, and those of the pages, counted from lo on, that f tells
pub record Adds (lo : ℕ) (f : ℕ → Bool) (m m' : List Bool) : Type 0 where
  pub same_length : length m' ≡ length m
  pub marks : (i : ℕ) → i < length m → get_or m' i false ≡ (get_or m i false || f (lo + i))
