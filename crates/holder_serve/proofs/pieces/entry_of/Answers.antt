use native.Mathlib.Omega.{arith}
use mathlib.Core.Path.{◌≡◌, ap}
use Prim.Native.Nat.{ℕ, ◌+◌, ◌-◌}
use Rattle.holder_rules.specs.Register.{entry}
use Rattle.holder_serve.proofs.pieces.entry_of.Goals as goal

pub overflow_add-last : goal.overflow_add-last
overflow_add-last c =
    let p = c.requires in omega arith

pub returns : goal.returns
returns c =
    let s = c in let x = s.args in let p = s.requires in
    ap (λ (l : ℕ). entry x.holder.0 x.start.0 l) (let e : x.start.0 + (x.size - 1) ≡ x.start.0 + x.size - 1 = omega arith in e)
