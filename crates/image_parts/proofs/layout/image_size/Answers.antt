use Prim.Native.Nat.{ℕ, ◌*◌}
use mathlib.Core.Path.{◌≡◌, ap}
use native.Mathlib.Omega.{arith}
use Rattle.image_parts.proofs.layout.image_size.Goals as goal

-- the bytes of all records
all : (w w' n : ℕ) → w ≡ w' → w * n ≡ w' * n
all w w' n e = ap (λ (x : ℕ). x * n) e

pub overflow_mul-result : goal.overflow_mul-result
overflow_mul-result c =
    let start = c in
    let f = start.args.form in
    let p = all _ _ f.records c.record_size.ensures in
    let r = start.requires.rests in
    omega arith

pub overflow_add-result : goal.overflow_add-result
overflow_add-result c =
    let start = c in
    let f = start.args.form in
    let p = all _ _ f.records c.record_size.ensures in
    let a = c.records_at.ensures in
    let r = start.requires.rests in
    omega arith

pub returns : goal.returns
returns c =
    let start = c in
    let f = start.args.form in
    let p = all _ _ f.records c.record_size.ensures in
    let a = c.records_at.ensures in
    omega arith
