use mathlib.Core.Path.{◌≡◌}
use mathlib.Core.Bool.{true}
use Rattle.mapper_free.specs.Free.{touches}
use Rattle.mapper_tables.specs.Apart.{apart_up_to}
use Rattle.mapper_tables.specs.Reached.{reached_in}
use Rattle.mapper_tables.proofs.tables_apart.Given as goal

abbrev pub invariant-loop-k : goal.invariant-loop-k
invariant-loop-k l =
    true ≡ apart_up_to l.low l.high (touches l.starts l.lasts l.count) (reached_in l.first l.arena l.top) l.k
