-- What a map over an image and an arena returns, every byte of the image and every word of the arena that it leaves, for all numbers. Assumes nothing.
use Rattle.std.specs.Prelude.{Bool, true, false, not, cond, List, ℕ, ◌/◌, eqb, ℤ, pos, negsuc, length}
use Rattle.image_parts.specs.Layout.{current, image_size_lem}
use Rattle.mapper_rules.specs.Numbers.{bad_numbers_lem}
use Rattle.mapper_laws.specs.declared.Mapping.{Mapping}
use Rattle.mapper_laws.specs.Mapping.{mapping_of}
use Rattle.mapper_blocks.specs.Blocks.{blocked_in}
use Rattle.mapper_pages.specs.Pages.{page_from, Supply, supply, taken, wants_in}
use Rattle.mapper_stores.specs.Stores.{Held, held, store_in_lem}
use Rattle.mapper_tables.specs.declared.Top.{Top}
use Rattle.mapper_lies.specs.Lies.{top_of, lies}

-- what is returned, and the image and the arena that are left
pub record Left : Type 0 where
  pub number : ℤ
  pub bytes : List ℕ
  pub words : List ℕ

abbrev pub left : ℤ → List ℕ → List ℕ → Left
left i l A = record { number = i; bytes = l; words = A }

-- where the line applies, its number and both as they were; else the lines below it decide
unfoldable pub refuse : Bool → ℤ → List ℕ → List ℕ → Left → Left
refuse c i l A below = cond c (left i l A) below

-- the arena's first word has the number b
module _ (q : Mapping) (b : ℕ) (t : Top) where
  -- a block stands where a table is wanted
  unfoldable pub in_the_way : List ℕ → Bool
  in_the_way A = blocked_in q b A t.height 0 t.word t.entries

  -- the pages that are wanted, asked for one after another
  unfoldable pub tried : List ℕ → List ℕ → Supply
  tried l A = taken (wants_in q b A false t.height 0 t.word t.entries) (supply true l)

  -- the stores
  unfoldable pub stored : List ℕ → List ℕ → Held
  stored l A = store_in_lem q b t.height 0 t.word t.entries (held A l)

  -- all is stored where every page is to be had; else the door's refusal
  unfoldable pub finished : List ℕ → List ℕ → Left
  finished l A = cond (tried l A).enough (left (pos 0) (stored l A).bytes (stored l A).arena) (left (page_from (tried l A).bytes).number l A)

-- -2 another length of the image; -4 the numbers; -2 no sound state, free bytes or tables that lie wrong; -4 a block in the way; then as the
-- page door answers
unfoldable pub map_over : ℕ → ℕ → ℕ → ℕ → ℕ → ℕ → Bool → Bool → List ℕ → List ℕ → Left
map_over base vttbr vtcr output input size readable writable l A =
    refuse (not (eqb (length l) (image_size_lem current))) (negsuc 1) l A
    (refuse (bad_numbers_lem base vttbr vtcr output input size) (negsuc 3) l A
    (refuse (not (lies base (top_of vttbr vtcr) l A)) (negsuc 1) l A
    (refuse (in_the_way (mapping_of output input size readable writable) (base / 8) (top_of vttbr vtcr) A) (negsuc 3) l A
    (finished (mapping_of output input size readable writable) (base / 8) (top_of vttbr vtcr) l A))))
