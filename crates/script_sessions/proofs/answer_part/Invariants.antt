use Prim.Native.Nat.{◌-◌, ◌≤◌}
use lib.ListN.{length}
use Rattle.pool_state.specs.Shown.{pool}
use Rattle.pool_state.specs.State.{arrays}
use Rattle.script_forms.specs.Forms.{SoundDesk, desk_in}
use Rattle.script_chunks.specs.Input.{kept}
use Rattle.script_sessions.proofs.Parts.{Goes}
use Rattle.script_sessions.proofs.answer_part.Given as goal

abbrev pub invariant-loop-reading : goal.invariant-loop-reading
invariant-loop-reading l =
    (kept ≤ length l.initial.carry) × SoundDesk pool (desk_in l.forms l.words (arrays l.total l.first l.heads l.start l.end l.enabled l.previous l.next l.lprev l.lnext))
    × Goes pool (desk_in l.initial.forms l.initial.words (arrays l.initial.total l.initial.first l.initial.heads l.initial.start l.initial.end l.initial.enabled l.initial.previous l.initial.next l.initial.lprev l.initial.lnext)) l.initial.reading l.initial.carry l.chunk l.initial.out (desk_in l.forms l.words (arrays l.total l.first l.heads l.start l.end l.enabled l.previous l.next l.lprev l.lnext)) l.reading l.carry l.out

abbrev pub decreases-loop-reading : goal.decreases-loop-reading
decreases-loop-reading l =
    length l.chunk - l.reading.from
