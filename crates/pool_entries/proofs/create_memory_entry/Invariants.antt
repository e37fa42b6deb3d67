use Prim.Native.Nat.{◌-◌}
use mathlib.Core.Path.{◌≡◌}
use mathlib.Core.List.{List}
use Rattle.rules.specs.Rules.{Range, lowest}
use Rattle.pool_state.specs.Shown.{pool, Marked}
use Rattle.pool_entries.proofs.create_memory_entry.Given as goal

abbrev pub invariant-loop-i : goal.invariant-loop-i
invariant-loop-i l =
    (ls : List Range) → Marked pool ls l.enabled → lowest pool 0 ls ≡ lowest (pool - l.i) l.i ls
