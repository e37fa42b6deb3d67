-- A map that wants a page which is not to be had is answered -3 or -1. Assumes nothing.
use mathlib.Core.Path.{refl}
use mathlib.Core.Bool.{Bool, true, false, not, cond}
use mathlib.Core.List.{List}
use mathlib.Core.Logic.{◌≢◌}
use Prim.Native.Nat.{ℕ, ◌/◌}
use lib.Dec.{T}
use lib.IntN.{ℤ, pos}
use Rattle.pool_state.specs.Shown.{pool}
use Rattle.pool_state.specs.Sound.{book_of}
use Rattle.image_parts.specs.Layout.{current}
use Rattle.image_reading.specs.Reading.{state_in_lem}
use Rattle.mapper_pages.specs.Pages.{page_from, supply, taken, wants_in}
use Rattle.mapper_supply.proofs.Reading.{read_first}
use Rattle.mapper_supply.proofs.Wanting.{Wanting, want-numbers}
use Rattle.mapper.specs.Maps.{left, tried, stored, finished}
use Rattle.mapper.specs.Refusals.{WantAnswered}
use Rattle.mapper_walks.proofs.Right.{lies→}

-- all is stored, or the door's number is returned
one_of : (c : Bool) (bytes words : List ℕ) (short : ℤ) (l A : List ℕ) → (T (not c) → Wanting short)
    → (cond c (left (pos 0) bytes words) (left short l A)).number ≢ pos 0 → Wanting (cond c (left (pos 0) bytes words) (left short l A)).number
one_of true bytes words short l A f d = absurd (d refl)
one_of false bytes words short l A f d = f tt

pub want-answered : WantAnswered
unfolding finished tried
want-answered q base t l A lying =
    let b = base / 8 in
    let n = wants_in q b A false t.height 0 t.word t.entries in
    one_of (taken n (supply true l)).enough (stored q b t l A).bytes (stored q b t l A).arena (page_from (taken n (supply true l)).bytes).number l A
    (want-numbers n (book_of pool (state_in_lem current l)) l (read_first l (lies→ base t l A lying).reads))
