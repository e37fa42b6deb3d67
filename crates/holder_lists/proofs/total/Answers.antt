use mathlib.Core.Path.{sym, ◌∙◌}
use Rattle.memory_allocator.specs.Names.{pool}
use Rattle.holder_lists.proofs.Answers.{total-sound, total-unsound}
use Rattle.holder_lists.proofs.total.Goals as goal

pub returns-then-is_sound : goal.returns-then-is_sound
returns-then-is_sound c =
    let t = c in c.total.ensures ∙ total-sound pool t.args.s (sym t.is_sound.ensures ∙ t.if-is_sound.true)

pub returns : goal.returns
returns c =
    total-unsound pool c.args.s (sym c.is_sound.ensures ∙ c.if-is_sound.false)
