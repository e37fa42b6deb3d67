use mathlib.Core.Path.{sym, ◌∙◌}
use Rattle.memory_allocator.specs.Names.{pool}
use Rattle.holder_lists.proofs.Answers.{lists-sound, lists-unsound}
use Rattle.holder_lists.proofs.listing.Goals as goal

pub returns-then-is_sound : goal.returns-then-is_sound
returns-then-is_sound c =
    let l = c in let t = l in let s = t in
    lists-sound pool s.args.s _ _ _ _ _ (sym t.is_sound.ensures ∙ t.if-is_sound.true) l.listing.ensures

pub returns : goal.returns
returns c =
    lists-unsound pool c.args.s _ _ (sym c.is_sound.ensures ∙ c.if-is_sound.false)
