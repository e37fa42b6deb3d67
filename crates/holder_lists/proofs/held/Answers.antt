use mathlib.Core.Path.{refl}
use Rattle.std.proofs.lemmas.Result.{err_from_is_err_and}
use Rattle.memory_allocator.specs.Names.{pool}
use Rattle.holder_lists.proofs.Answers.{held-refused, asked-sound, held-counted}
use Rattle.holder_lists.proofs.held.Goals as goal

pub returns-in_err-answer_asked : goal.returns-in_err-answer_asked
returns-in_err-answer_asked c =
    let p = err_from_is_err_and c.from_residual.result c.from_residual.ensures.1 in
    rw (p.1, p.2) (held-refused pool c.args.s c.args.whose c.in_err-answer_asked.field-0.0 c.in_err-answer_asked.ensures)

pub sum_held-requires : goal.sum_held-requires
sum_held-requires c =
    asked-sound pool c.args.s c.args.whose _ c.in_ok-answer_asked.ensures refl

pub returns : goal.returns
returns c =
    held-counted pool c.args.s c.args.whose _ _ c.in_ok-answer_asked.ensures c.sum_held.ensures
