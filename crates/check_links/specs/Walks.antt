-- The walks of the chain and of each size list. n is the number of records. Assumes nothing.
use Rattle.std.specs.Prelude.{ℕ, zero, suc, ◌+◌, Bool, ◌&&◌, List, eqb, leb, ltb, get_or, Option}
use Rattle.linked_lists.specs.Links.{none}
use Rattle.rules.specs.Rules.{size}
use Rattle.pool_state.specs.Shown.{at, key_at}
use Rattle.check_links.specs.Walk.{walk, sum_along, onward}
use Rattle.check_records.specs.Records.{used}

-- ---- the chain

-- i is the number of a record in use, which names q before it
unfoldable pub follows : ℕ → List Bool → List ℕ → ℕ → ℕ → Bool
follows n enabled prev q i = ltb i n && (used enabled i && eqb (get_or prev i 0) q)

abbrev pub size_at : List ℕ → List ℕ → ℕ → ℕ
size_at start end i = size (at start end i)

unfoldable pub chain_step_lem : ℕ → List ℕ → List Bool → List ℕ → ℕ → ℕ → ℕ → Bool
chain_step_lem n start enabled previous q low i = follows n enabled previous q i && leb low (get_or start i 0)

abbrev pub chain_walk : ℕ → List ℕ → List ℕ → List Bool → List ℕ → List ℕ → ℕ → ℕ → ℕ → ℕ → Option ℕ
chain_walk n start end enabled previous next = walk (λ i. get_or next i 0) (λ i. get_or end i 0 + 2) (chain_step_lem n start enabled previous)

-- the chain has c records, and their sizes add up to the total
unfoldable pub chain_ok_lem : ℕ → ℕ → ℕ → List ℕ → List ℕ → List Bool → List ℕ → List ℕ → ℕ → Bool
chain_ok_lem n total first start end enabled previous next c =
    onward (λ f. eqb f 0) (chain_walk n start end enabled previous next c none 0 first)
    && eqb (sum_along (λ i. get_or next i 0) (size_at start end) c first) total

-- ---- the size lists

unfoldable pub list_step : ℕ → List ℕ → List ℕ → List Bool → List ℕ → ℕ → ℕ → ℕ → ℕ → Bool
list_step n start end enabled lprev k q low i = follows n enabled lprev q i && (leb low (size_at start end i) && eqb (key_at start end i) k)

abbrev pub list_walk : ℕ → List ℕ → List ℕ → List Bool → List ℕ → List ℕ → ℕ → ℕ → ℕ → ℕ → ℕ → Option ℕ
list_walk n start end enabled lprev lnext k = walk (λ i. get_or lnext i 0) (size_at start end) (list_step n start end enabled lprev k)

-- the m lists from k on have c records
unfoldable pub lists_ok_lem : ℕ → List ℕ → List ℕ → List ℕ → List Bool → List ℕ → List ℕ → ℕ → ℕ → ℕ → Bool
lists_ok_lem n heads start end enabled lprev lnext zero k c = eqb c 0
lists_ok_lem n heads start end enabled lprev lnext (suc m) k c =
    onward (λ f. lists_ok_lem n heads start end enabled lprev lnext m (suc k) f) (list_walk n start end enabled lprev lnext k c none 0 (get_or heads k 0))
