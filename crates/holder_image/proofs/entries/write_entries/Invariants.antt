use Prim.Native.Nat.{◌-◌}
use mathlib.Core.List.{[]}
use lib.ListN.{get_or}
use Rattle.image_parts.proofs.Loops.{Laying}
use Rattle.holder_rules.specs.Register.{entries, blank}
use Rattle.holder_image.specs.Layout.{entry_size}
use Rattle.holder_image.specs.Bytes.{entry_bytes}
use Rattle.holder_image.proofs.entries.write_entries.Given as goal

abbrev pub invariant-loop-i : goal.invariant-loop-i
invariant-loop-i l =
    Laying (λ j. entry_bytes (get_or l.register.entries j blank)) 0 entry_size entries l.i [] l.part
