-- Where the records of a layout lie in an image of its length. Assumes nothing.
use mathlib.Core.Path.{◌≡◌, ap}
use mathlib.Core.List.{List}
use Prim.Native.Nat.{ℕ, ◌+◌, ◌*◌, ◌^◌, ◌≤◌, ◌<◌}
use native.Mathlib.Nat.{mul-add, mul-one, mul-le-mul_left}
use native.Mathlib.Omega.{arith}
use lib.ListN.{length}
use Rattle.image_parts.specs.Layout.{Layout, Lawful, records_at_lem, record_size_lem, record_at, image_size_lem}
use Rattle.image_parts.proofs.Parts.{record-room}

-- the k-th of four links ends before the fourth does
pub link-room : (a w k m : ℕ) → k < 4 → a + w * 4 ≤ m → a + w * k + w ≤ m
link-room a w k m b h = let p : w * (k + 1) ≤ w * 4 = mul-le-mul_left w (omega arith) in let q = mul-add w k 1 in let r = mul-one w in omega arith

-- a record, by the first byte of all and the bytes of one as they were computed
pub record Place (f : Layout) (l : List ℕ) (a w i : ℕ) : Type 0 where
  pub here : a + w * i ≡ record_at f i
  pub room : a + w * i + record_size_lem f ≤ length l
  pub fits : a + w * i + record_size_lem f < 2 ^ 63

pub place : (f : Layout) → Lawful f → (l : List ℕ) → length l ≡ image_size_lem f → (a w i : ℕ) → a ≡ records_at_lem f → w ≡ record_size_lem f → i < f.records → Place f l a w i
place f lawful l sized a w i ea ew b =
    let same : w * i ≡ record_size_lem f * i = ap (λ (x : ℕ). x * i) ew in
    let r = record-room f 0 (record_size_lem f) i (omega arith) b in
    let small = lawful.rests in
    record { here = omega arith; room = omega arith; fits = omega arith }
