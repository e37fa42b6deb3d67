use mathlib.Core.Path.{◌≡◌, ◌∙◌}
use mathlib.Core.List.{[]}
use Prim.Native.Nat.{◌<◌}
use native.Mathlib.Omega.{arith}
use lib.ListN.{get_or, drop, drop_of_length-le}
use Rattle.bytes_be.specs.Numbers.{more}
use Rattle.bytes_be.proofs.Loops.{grows, more-next}
use Rattle.bytes_be.proofs.read_word.Goals as goal

pub overflow_mul-x : goal.overflow_mul-x
overflow_mul-x c =
    omega (arith, grows c.loop-i.i c.loop-i.x 0 (omega arith) (omega arith) (omega arith))

pub loop-i-preserved : goal.loop-i-preserved
loop-i-preserved c =
    let l = c.loop-i in
    let part = c.args.part.now in
    let b : get_or part l.i 0 < 256 = omega (arith, c.type_inv.part l.i) in
    (omega arith, ((grows l.i l.x (get_or part l.i 0) (omega arith) (omega arith) b).0, more-next part l.i l.x (omega arith) ∙ l.invariant.1.1))

pub returns : goal.returns
unfolding more
returns c =
    let l = c.loop-i in
    let none : drop l.i c.args.part.now ≡ [] = drop_of_length-le c.args.part.now {i = l.i} (omega arith) in
    rw none at l.invariant.1.1
