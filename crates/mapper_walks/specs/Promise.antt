-- What an accepted map promises, in the request's own words: in the arena that is left, mapped addresses translate as asked and all others as before. The arena's
-- first byte has the address base; l is the image and A the arena before. Assumes nothing.
use Rattle.std.specs.Prelude.{Bool, cond, List, ◌≡◌, ℕ, ◌*◌, ◌/◌, ◌<◌, T, pos, length}
use Rattle.mapper_rules.specs.Walk.{span, Translation, walk, top_height}
use Rattle.mapper_rules.specs.Numbers.{top_entries}
use Rattle.mapper_laws.specs.declared.Mapping.{Mapping}
use Rattle.mapper_laws.specs.Tree.{memory, Once}
use Rattle.mapper_laws.specs.Mapping.{mapping_of, in_range, asked, mapped}
use Rattle.mapper_laws.specs.Arena.{shows}
use Rattle.mapper_laws.specs.Promise.{entry_at_lem, reached, Outside, before, wanted}
use Rattle.mapper_lies.specs.Lies.{top_of, lies}
use Rattle.mapper_supply.specs.Supply.{image_after, page_at}
use Rattle.mapper.specs.Maps.{Left, map_over}

module _ (base vttbr vtcr output input size : ℕ) (readable writable : Bool) (l A : List ℕ) where
  abbrev q : Mapping
  q = mapping_of output input size readable writable

  -- the words of an arena, counted from address 0, and the walk through them
  abbrev words : List ℕ → ℕ → ℕ
  words = shows (base / 8)

  abbrev translation : List ℕ → ℕ → Translation
  translation B = walk (memory (words B)) vttbr vtcr

  abbrev after : Left
  after = map_over base vttbr vtcr output input size readable writable l A

  pub record Mapped : Type 0 where
    -- as asked in the range, as before elsewhere, for every input
    pub translated : (x : ℕ) → translation after.words x ≡ cond (in_range q x) (asked q x) (translation A x)
    -- each entry of the top table leads to what the mapping makes of it, with the door's pages in their order
    pub tree : (j : ℕ) → j < top_entries vtcr
        → entry_at_lem (words after.words) vttbr vtcr j ≡ mapped q (page_at l) (top_height vtcr) (j * span (top_height vtcr)) (before q (words A) vttbr vtcr j) (entry_at_lem (words A) vttbr vtcr j)
    -- the arena is as long as it was, and no word changes but those of tables that are then reached
    pub same_length : length after.words ≡ length A
    pub frame : (w : ℕ) → Outside (words after.words) vttbr vtcr w → words after.words w ≡ words A w
    -- no table is then reached twice
    pub once : Once (reached (words after.words) vttbr vtcr)
    -- the pages that were wanted, and no others, are taken from the allocator
    pub taken : after.bytes ≡ image_after (wanted q (words A) vttbr vtcr) l
    -- all lies right once more: no later map is refused for what this one left
    pub lies-right : T (lies base (top_of vttbr vtcr) after.bytes after.words)

  -- of every map that answers 0
  abbrev pub Promised : Type 0
  Promised = after.number ≡ pos 0 → Mapped
