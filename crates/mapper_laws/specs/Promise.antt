-- What a map promises of all words, in the request's own words: mapped addresses translate as asked, all others as before. Assumes nothing.
use Rattle.std.specs.Prelude.{Bool, not, cond, ◌≡◌, ◌≢◌, List, [], ◌∷◌, ◌++◌, ℕ, ◌+◌, ◌*◌, ◌/◌, ◌%◌, ◌^◌, ◌≤◌, ◌<◌, T}
use Rattle.mapper_rules.specs.Walk.{span, walk, input_top, top_height, top_table}
use Rattle.mapper_rules.specs.Numbers.{top_entries, top_bytes_lem, bad_registers_lem}
use Rattle.mapper_laws.specs.declared.Mapping.{Mapping}
use Rattle.mapper_laws.specs.Tree.{Entry, memory, page_of, leads_to, joined, sum, some, tables, In, Once}
use Rattle.mapper_laws.specs.Mapping.{Sane, in_range, asked, wants, blocked, mapped}
use Rattle.mapper_laws.specs.Stores.{Stored, steps, store}

-- what the j-th entry of the top table leads to
abbrev pub entry_at_lem : (ℕ → ℕ) → ℕ → ℕ → ℕ → Entry
entry_at_lem word vttbr vtcr j = leads_to page_of word (top_height vtcr) (word (top_table vttbr / 8 + j))

-- the pages of the top table, all of them
abbrev pub top_pages : ℕ → ℕ → List ℕ
top_pages vttbr vtcr = joined (top_bytes_lem vtcr / 4096) (λ k. (top_table vttbr / 4096 + k) ∷ [])

-- the pages of the tables that it leads to, each as often as it is reached; and those of all tables
unfoldable pub tables_below : (ℕ → ℕ) → ℕ → ℕ → List ℕ
tables_below word vttbr vtcr = joined (top_entries vtcr) (λ j. tables page_of (top_height vtcr) (entry_at_lem word vttbr vtcr j))

abbrev pub reached : (ℕ → ℕ) → ℕ → ℕ → List ℕ
reached word vttbr vtcr = top_pages vttbr vtcr ++ tables_below word vttbr vtcr

-- the word w is no entry of the top table that an input reaches, nor an entry of a table below
pub record Outside (word : ℕ → ℕ) (vttbr vtcr w : ℕ) : Type 0 where
  pub no-entry : (j : ℕ) → j < top_entries vtcr → w ≢ top_table vttbr / 8 + j
  pub no_table : In (w / 512) (tables_below word vttbr vtcr) → ⊥

module _ (q : Mapping) (word : ℕ → ℕ) (vttbr vtcr : ℕ) where
  -- where the inputs of the j-th entry begin
  abbrev begin : ℕ → ℕ
  begin j = j * span (top_height vtcr)

  -- how many table pages the first n entries want, and all of them; and whether a block stands where a table is wanted
  abbrev pub before : ℕ → ℕ
  before n = sum n (λ j. wants q (top_height vtcr) (begin j) (entry_at_lem word vttbr vtcr j))

  unfoldable pub wanted : ℕ
  wanted = before (top_entries vtcr)

  unfoldable pub in_the_way : Bool
  in_the_way = some (top_entries vtcr) (λ j. blocked q (top_height vtcr) (begin j) (entry_at_lem word vttbr vtcr j))

  -- page k is the page that is handed out after k others
  module _ (page : ℕ → ℕ) where
    unfoldable pub after : Stored
    after = steps (top_entries vtcr) (λ j. store q page page_of (top_height vtcr) (begin j) (top_table vttbr / 8 + j)) (record { word = word; handed = 0 })

    -- what is asked: registers that are not refused; a range below the last input; no block in the way; whole pages to be handed out; and no
    -- table that is reached twice, or is handed out, or handed out twice
    pub record Fit : Type 0 where
      pub registers : T (not (bad_registers_lem vttbr vtcr))
      pub sane : Sane q
      pub inside : q.past ≤ input_top vtcr
      pub unblocked : T (not in_the_way)
      pub whole : (k : ℕ) → k < wanted → page k % 4096 ≡ 0
      pub below : (k : ℕ) → k < wanted → page k < 2 ^ 48
      pub once : Once (reached word vttbr vtcr ++ joined wanted (λ k. (page k / 4096) ∷ []))

    -- what holds then: as asked and as before, of every input; the tree is the mapped one; outside of it no word changes; every page that was
    -- wanted is handed out; no table is reached twice; and no other words lead to that tree and are as before outside of it
    pub record Maps : Type 0 where
      pub translated : (x : ℕ) → walk (memory after.word) vttbr vtcr x ≡ cond (in_range q x) (asked q x) (walk (memory word) vttbr vtcr x)
      pub tree : (j : ℕ) → j < top_entries vtcr → entry_at_lem after.word vttbr vtcr j ≡ mapped q page (top_height vtcr) (begin j) (before j) (entry_at_lem word vttbr vtcr j)
      pub frame : (w : ℕ) → Outside after.word vttbr vtcr w → after.word w ≡ word w
      pub handed : after.handed ≡ wanted
      pub once : Once (reached after.word vttbr vtcr)
      pub determined : (v : ℕ → ℕ) → ((j : ℕ) → j < top_entries vtcr → entry_at_lem v vttbr vtcr j ≡ entry_at_lem after.word vttbr vtcr j)
          → ((w : ℕ) → Outside v vttbr vtcr w → v w ≡ word w) → (w : ℕ) → v w ≡ after.word w
