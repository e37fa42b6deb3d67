use Prim.Native.Nat.{◌+◌, ◌-◌}
use mathlib.Core.Path.{◌≡◌}
use lib.ListN.{drop}
use Rattle.rules.specs.Rules.{sum}
use Rattle.holder_rules.specs.Register.{entries}
use Rattle.holder_lists.specs.Whose.{found}
use Rattle.holder_lists.proofs.sum_held.Given as goal

abbrev pub invariant-loop-e : goal.invariant-loop-e
invariant-loop-e l =
    sum (found l.whose l.fn.register.entries) ≡ l.bytes + sum (found l.whose (drop l.e-index l.fn.register.entries))
