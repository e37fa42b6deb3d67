-- `find::find_byte` meets its contract. The invariant: what is found from here is what is found from `from`.
-- Assumes nothing.
use mathlib.Core.Path.{◌≡◌}
use Rattle.script_lines.specs.Search.{first_in}
use Rattle.script_lines.proofs.find.find_byte.Given as goal

abbrev pub invariant-loop-i : goal.invariant-loop-i
invariant-loop-i l =
    first_in l.byte l.i l.to l.buf ≡ first_in l.byte l.from l.to l.buf
