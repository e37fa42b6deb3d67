use mathlib.Core.Path.{sym, ◌∙◌}
use Rattle.memory_allocator.specs.Names.{pool}
use Rattle.holder_lists.proofs.Answers.{asked-all, asked-unknown, asked-unsound}
use Rattle.holder_lists.proofs.answer_asked.Goals as goal

pub returns-then-is_known : goal.returns-then-is_known
returns-then-is_known c =
    let t = c in let x = t.args in
    asked-all pool x.s x.whose (sym t.is_sound.ensures ∙ t.if-is_sound.true) (sym c.is_known.ensures ∙ c.if-is_known.true)

pub returns-then-is_sound : goal.returns-then-is_sound
returns-then-is_sound c =
    let t = c in let x = t.args in
    asked-unknown pool x.s x.whose (sym t.is_sound.ensures ∙ t.if-is_sound.true) (sym c.is_known.ensures ∙ c.if-is_known.false)

pub returns : goal.returns
returns c =
    let x = c.args in asked-unsound pool x.s x.whose (sym c.is_sound.ensures ∙ c.if-is_sound.false)
