use Rattle.record.specs.Taping.{Placed}
use Rattle.record.proofs.record_all.Given as goal

abbrev pub invariant-loop : goal.invariant-loop
invariant-loop l = Placed l.t l.carry l.out
