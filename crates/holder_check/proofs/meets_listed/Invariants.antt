use Prim.Native.Nat.{suc}
use mathlib.Core.Path.{◌≡◌}
use Rattle.rules.specs.Rules.{any, meets}
use Rattle.holder_check.specs.Spans.{spans}
use Rattle.holder_check.proofs.Spans.{from}
use Rattle.holder_check.proofs.meets_listed.Given as goal

abbrev pub invariant-loop-i : goal.invariant-loop-i
invariant-loop-i l =
    any (meets l.first (suc l.last)) (spans l.count l.starts l.lasts) ≡ any (meets l.first (suc l.last)) (from l.i l.count l.starts l.lasts)
