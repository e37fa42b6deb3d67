use mathlib.Core.Path.{◌≡◌}
use mathlib.Core.List.{[], ◌∷◌}
use mir.Syntax.{w64}
use mir.Facts.{to_z_pos}
use Rattle.journal_blocks.specs.Journal.{version}
use native.Mathlib.Omega.{arith}
use Rattle.journal_calls.proofs.Ways.{no_room, version-place, is-put}
use Rattle.journal_calls.proofs.begin_journal.Goals.{After-begin}
use Rattle.journal_calls.proofs.begin_journal.Goals as goal

pub returns-then-journal-eq0 : goal.returns-then-journal-eq0
returns-then-journal-eq0 c =
    no_room _ _ _ (omega arith)

-- the place of the first block
place : (c : After-begin) → c.begin.result ≡ 1
place c = version-place c.args.journal.now _ _ (omega arith) c.begin.ensures

pub overflow_cast-result : goal.overflow_cast-result
overflow_cast-result c =
    record { sfits = omega (arith, place (goal.at.overflow_cast-result c).After-begin) }

pub returns : goal.returns
returns c =
    let one = place (goal.at.returns c).After-begin in
    is-put (version ∷ []) c.args.journal.now 0 (omega arith) _ _ c.begin.ensures (λ e. omega arith) _ (to_z_pos w64 (omega arith))
