use mathlib.Core.Path.{◌≡◌}
use Rattle.mapper_laws.specs.Arena.{cleared}
use Rattle.mapper_arena.proofs.clear_table.Given as goal

abbrev pub invariant-loop-j : goal.invariant-loop-j
invariant-loop-j l =
    l.arena ≡ cleared l.j l.first l.initial.arena l.at
