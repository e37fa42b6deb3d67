-- Each line that refuses a map leaves the image and the arena as they were. Assumes nothing.
use mathlib.Core.Bool.{Bool, true, false, cond}
use mathlib.Core.List.{List}
use mathlib.Core.Logic.{◌≢◌}
use mathlib.Core.Path.{refl}
use Prim.Native.Nat.{ℕ}
use lib.IntN.{ℤ, pos}
use Rattle.mapper_laws.specs.declared.Mapping.{Mapping}
use Rattle.mapper_pages.specs.Pages.{page_from}
use Rattle.mapper_tables.specs.declared.Top.{Top}
use Rattle.mapper.specs.Maps.{Left, left, refuse, tried, stored, finished, map_over}
use Rattle.mapper.specs.Refusals.{Unchanged, RefusedUnchanged}

module _ (l A : List ℕ) where
  abbrev Keeps : Left → Type 0
  Keeps r = r.number ≢ pos 0 → Unchanged l A r

  as-they-were : (i : ℤ) → Keeps (left i l A)
  as-they-were i d = record { bytes = refl; words = refl }

  either : (c : Bool) (x y : Left) → Keeps x → Keeps y → Keeps (cond c x y)
  either true x y f g = f
  either false x y f g = g

  line : (c : Bool) (i : ℤ) (below : Left) → Keeps below → Keeps (refuse c i l A below)
  unfolding refuse
  line c i below f = either c (left i l A) below (as-they-were i) f

  -- all is stored, or a page was wanting
  last_line : (q : Mapping) (b : ℕ) (t : Top) → Keeps (finished q b t l A)
  unfolding finished
  last_line q b t =
      either (tried q b t l A).enough (left (pos 0) (stored q b t l A).bytes (stored q b t l A).arena) (left (page_from (tried q b t l A).bytes).number l A)
      (λ d. absurd (d refl)) (as-they-were (page_from (tried q b t l A).bytes).number)

pub refused-unchanged : RefusedUnchanged
unfolding map_over
refused-unchanged base vttbr vtcr output input size readable writable l A =
    line l A _ _ _ (line l A _ _ _ (line l A _ _ _ (line l A _ _ _ (last_line l A _ _ _))))
