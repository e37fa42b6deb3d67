use Rattle.pool_state.specs.Shown.{pool}
use Rattle.pool_state.specs.State.{arrays}
use Rattle.script_forms.specs.Forms.{desk_in}
use Rattle.script.proofs.Looping.{Going}
use Rattle.script.proofs.answer_all.Given as goal

abbrev pub invariant-loop-turns : goal.invariant-loop-turns
invariant-loop-turns l =
    Going pool l.initial.carry l.initial.chunk l.initial.out (desk_in l.forms l.words (arrays l.total l.first l.heads l.start l.end l.enabled l.previous l.next l.lprev l.lnext)) l.session l.carry l.chunk l.out l._turns
