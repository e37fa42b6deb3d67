use Prim.Native.Nat.{◌-◌}
use native.Mathlib.Omega.{arith}
use Rattle.image_parts.proofs.Loops.{fill_start, fill-next, fill_end}
use Rattle.holder_rules.specs.Register as register
use Rattle.holder_image.specs.Bytes.{register_in_lem}
use Rattle.holder_image.proofs.entries.fill_register.Invariants.{held}
use Rattle.holder_image.proofs.entries.fill_register.Goals as goal

pub loop-i-init : goal.loop-i-init
loop-i-init c =
    fill_start _ held _ c.requires.1

pub entry_at-requires : goal.entry_at-requires
entry_at-requires c =
    (c.requires.0, c.loop-i-test.true)

pub loop-i-preserved : goal.loop-i-preserved
loop-i-preserved c =
    let w = c in let l = w.loop-i-test.true in let o = w.loop-i in fill-next _ held o.i o.register.entries _ (omega arith) c.entry_at.ensures o.invariant

pub returns : goal.returns
unfolding register_in_lem
returns c =
    let l = c.loop-i in let t = c.loop-i-test.false in fill_end _ held l.i l.register.entries (omega arith) l.invariant
