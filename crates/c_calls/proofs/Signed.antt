-- What an upgrade returns, by the answer of the one over slices. Assumes nothing.
use Rattle.std.specs.Prelude.{Ok, Err}
use Prim.Native.Nat.{ℕ}
use mathlib.Core.Bool.{Bool, true, false, cond}
use mathlib.Core.List.{List}
use mathlib.Core.Path.{◌≡◌, ap}
use native.Mathlib.Omega.{arith}
use lib.IntN.{ℤ, pos}
use Rattle.calls.specs.Calls.{signed_of}
use Rattle.calls.specs.declared.MemoryError.TheVariants as refusals
use Rattle.image_parts.specs.Layout.{current}
use Rattle.image_writing.specs.Writing.{image_of}
use Rattle.image.specs.Writing.{Written, written, ImageAnswer, invalid}
use Rattle.image.specs.Reading.{reading_any}
use Rattle.image_upgrade.specs.Upgrades.{upgrades, upgrading_of}
use Rattle.c_over.specs.CCalls.{Returned, returned, upgrade_over}

-- the signed number of an answer
abbrev pub code_of : ImageAnswer → ℤ
code_of (Ok _) = pos 0
code_of (Err _) = signed_of (Err refusals.InvalidEntry)

both_ways : (l l' x : List ℕ) (t : Bool) (a : ImageAnswer) → written a l' ≡ cond t (written (Ok tt) x) (written (Err invalid) l)
    → returned (code_of a) l' ≡ cond t (returned (pos 0) x) (returned (signed_of (Err refusals.InvalidEntry)) l)
both_ways l l' x true (Ok _) e = ap (λ (w : Written). returned (pos 0) w.bytes) e
both_ways l l' x true (Err _) e = let h = ap (λ (w : Written). w.number) e in absurd (omega arith)
both_ways l l' x false (Ok _) e = let h = ap (λ (w : Written). w.number) e in absurd (omega arith)
both_ways l l' x false (Err _) e = ap (λ (w : Written). returned (signed_of (Err refusals.InvalidEntry)) w.bytes) e

pub upgrade-told : (old l l' : List ℕ) (a : ImageAnswer) → written a l' ≡ upgrading_of old l → returned (code_of a) l' ≡ upgrade_over old l
unfolding upgrading_of upgrade_over
upgrade-told old l l' a e = both_ways l l' (image_of current (reading_any old).state) (upgrades old l) a e
