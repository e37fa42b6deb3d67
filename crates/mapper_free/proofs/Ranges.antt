-- What is read from an image has its ranges in order. Assumes nothing.
use mathlib.Core.Path.{◌≡◌, refl, sym, subst}
use mathlib.Core.Bool.{Bool, true, false, ◌&&◌}
use mathlib.Core.List.{List}
use Prim.Native.Nat.{ℕ}
use lib.Dec.{lit≤}
use Rattle.pool_state.specs.Shown.{pool}
use Rattle.pool_state.specs.declared.MemoryAllocator.{MemoryAllocator}
use Rattle.pool_chain.specs.Chain.{Ordered}
use Rattle.check_state.specs.IsSound.{is_sound_lem}
use Rattle.core_accounts.proofs.Shows.{ordered}
use Rattle.image_parts.specs.Layout.{current}
use Rattle.image_reading.specs.Reading.{state_in_lem, framed, readable}
use Rattle.image_reading.proofs.Whole.{state-sized}
use Rattle.image_reading.proofs.Figure.{readable-ranges}
use Rattle.mapper_free.specs.Free.{chain_in}

second : (a b : Bool) → (a && b) ≡ true → b ≡ true
second true b e = e
second false true e = refl
second false false e = e

pub read-ordered : (l : List ℕ) (s : MemoryAllocator) → readable current l ≡ true → s ≡ state_in_lem current l → Ordered pool (chain_in l) s.start s.end s.next s.first_entry.0
read-ordered l s r e = subst (λ (t : MemoryAllocator). Ordered pool (chain_in l) t.start t.end t.next t.first_entry.0) (sym e)
    (ordered pool (lit≤ tt) (state_in_lem current l) (state-sized current l) (second (framed current l) (is_sound_lem pool (state_in_lem current l)) (readable-ranges current l r)))
