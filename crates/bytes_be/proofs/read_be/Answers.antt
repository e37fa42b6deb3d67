use mathlib.Core.Path.{◌≡◌, ◌∙◌}
use mathlib.Core.List.{[]}
use Prim.Native.Nat.{◌<◌}
use native.Mathlib.Omega.{arith}
use lib.ListN.{get_or, drop, drop_of_length-le}
use Rattle.bytes_be.specs.Numbers.{more}
use Rattle.bytes_be.proofs.Loops.{grows, more-next}
use Rattle.bytes_be.proofs.read_be.Goals as goal

pub overflow_mul-x : goal.overflow_mul-x
overflow_mul-x c =
    omega (arith, grows c.loop-byte.byte-index c.loop-byte.x 0 (omega arith) (omega arith) (omega arith))

pub loop-byte-preserved : goal.loop-byte-preserved
loop-byte-preserved c =
    let l = c.loop-byte in
    let part = c.args.part.now in
    let i = l.byte-index in
    let b : get_or part i 0 < 256 = omega (arith, c.type_inv.part i) in
    ((grows i l.x (get_or part i 0) (omega arith) (omega arith) b).0, more-next part i l.x (omega arith) ∙ l.invariant.1)

pub returns-clause-value : goal.returns-clause-value
unfolding more
returns-clause-value c =
    let l = c.loop-byte in
    let none : drop l.byte-index c.args.part.now ≡ [] = drop_of_length-le c.args.part.now {i = l.byte-index} (omega arith) in
    rw none at l.invariant.1
