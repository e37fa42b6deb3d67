use Prim.Native.Nat.{ℕ, ◌-◌}
use Rattle.image_parts.proofs.Loops.{Filling}
use Rattle.holder_rules.specs.Register as register
use Rattle.holder_image.specs.Bytes.{entry_at_lem}
use Rattle.holder_image.proofs.entries.fill_register.Given as goal

abbrev pub held : ℕ
held = register.entries

abbrev pub invariant-loop-i : goal.invariant-loop-i
invariant-loop-i l =
    Filling (entry_at_lem l.image) held l.i l.register.entries
