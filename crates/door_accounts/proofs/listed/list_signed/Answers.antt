use Prim.Native.Nat.{◌<◌, ◌^◌}
use mathlib.Core.Path.{refl}
use native.Mathlib.Omega.{arith}
use mir.Syntax.{w64}
use mir.Facts.{to_z_pos}
use Rattle.pool_state.specs.Shown.{pool}
use Rattle.door_accounts.proofs.Ways.{lists-chain, counted-few}
use Rattle.door_accounts.proofs.listed.list_signed.Goals.{In-Some}
use Rattle.door_accounts.proofs.listed.list_signed.Goals as goal

-- no more ranges than records
below : (c : In-Some) → c.in-Some.count < 2 ^ 63
below c =
    let counted = c in
    let listed = counted in
    let u = listed.requires in
    omega (arith, counted-few pool u.0 _ _ _ _ u.1 _ _ _ _ _ (listed.list_in.ensures u.0 u.1) _ counted.in-Some.is)

pub overflow_cast-result : goal.overflow_cast-result
overflow_cast-result c =
    record { sfits = below (goal.at.overflow_cast-result c).In-Some }

pub returns-in-Some : goal.returns-in-Some
returns-in-Some c l o =
    let counted = c in
    let listed = counted in
    lists-chain l _ _ _ _ _ _ (listed.list_in.ensures l o) counted.in-Some.is _ (to_z_pos w64 (below (goal.at.returns-in-Some c).In-Some))

pub returns-in-None : goal.returns-in-None
returns-in-None c l o =
    let listed = c in
    lists-chain l _ _ _ _ _ _ (listed.list_in.ensures l o) c.in-None.is _ refl
