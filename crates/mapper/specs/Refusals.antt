-- A refused map has changed nothing: no byte of the image and no word of the arena; and with which numbers the want of a page is answered. Assumes nothing.
use Rattle.std.specs.Prelude.{Bool, List, ◌≢◌, ◌⊎◌, ◌≡◌, ℕ, ◌/◌, T, pos, negsuc}
use Rattle.mapper_laws.specs.declared.Mapping.{Mapping}
use Rattle.mapper_tables.specs.declared.Top.{Top}
use Rattle.mapper_lies.specs.Lies.{lies}
use Rattle.mapper.specs.Maps.{Left, finished, map_over}

pub record Unchanged (l A : List ℕ) (r : Left) : Type 0 where
  pub bytes : r.bytes ≡ l
  pub words : r.words ≡ A

-- of all numbers, over any bytes and any words: what is returned is 0, or both are as they were
abbrev pub RefusedUnchanged : Type 0
RefusedUnchanged =
    (base vttbr vtcr output input size : ℕ) (readable writable : Bool) (l A : List ℕ)
    → (map_over base vttbr vtcr output input size readable writable l A).number ≢ pos 0
    → Unchanged l A (map_over base vttbr vtcr output input size readable writable l A)

-- of any mapping, over an image and an arena that lie right, which is where the door is asked: 0, or a page is wanting, and then -3 or -1, never -2 or -4
abbrev pub WantAnswered : Type 0
WantAnswered =
    (q : Mapping) (base : ℕ) (t : Top) (l A : List ℕ) → T (lies base t l A)
    → (finished q (base / 8) t l A).number ≢ pos 0
    → ((finished q (base / 8) t l A).number ≡ negsuc 2) ⊎ ((finished q (base / 8) t l A).number ≡ negsuc 0)
