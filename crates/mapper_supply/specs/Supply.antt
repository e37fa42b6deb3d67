-- The pages that the door hands out one after another, over the image l, and what is promised of them. Assumes nothing.
use Rattle.std.specs.Prelude.{List, [], ◌∷◌, ◌++◌, ◌≡◌, ℕ, zero, suc, ◌+◌, ◌/◌, ◌%◌, ◌≤◌, ◌<◌, T, length}
use Rattle.rules.specs.Rules.{free_at}
use Rattle.pool_state.specs.Shown.{pool}
use Rattle.pool_state.specs.Sound.{book_of}
use Rattle.calls.specs.Calls.{address_from}
use Rattle.image_parts.specs.Layout.{current}
use Rattle.image_reading.specs.Reading.{state_in_lem}
use Rattle.mapper_laws.specs.Tree.{joined, Once}
use Rattle.mapper_pages.specs.Pages.{page_from}
use Rattle.mapper_tables.specs.declared.Top.{Top}
use Rattle.mapper_tables.specs.Reached.{reached_in}
use Rattle.mapper_lies.specs.Lies.{top_byte_lem}

-- the image after k pages, and the address of the page that is asked for next
unfoldable pub image_after : ℕ → List ℕ → List ℕ
image_after zero l = l
image_after (suc k) l = (page_from (image_after k l)).bytes

abbrev pub page_at : List ℕ → ℕ → ℕ
page_at l k = address_from (page_from (image_after k l)).number

-- the first n of them: whole pages, each byte free in the state that l holds, among those of the arena and below 2 ^ 48; none comes twice, and
-- none is a table that is reached
pub record Handed (base : ℕ) (t : Top) (l A : List ℕ) (n : ℕ) : Type 0 where
  pub whole : (k : ℕ) → k < n → page_at l k % 4096 ≡ 0
  pub free : (k : ℕ) → k < n → (i : ℕ) → i < 4096 → T (free_at (book_of pool (state_in_lem current l)) (page_at l k + i))
  pub low : (k : ℕ) → k < n → base ≤ page_at l k
  pub high : (k : ℕ) → k < n → page_at l k + 4096 ≤ top_byte_lem base (length A)
  pub once : Once (reached_in (base / 8) A t ++ joined n (λ k. (page_at l k / 4096) ∷ []))
