use mathlib.Core.Path.{◌∙◌}
use Rattle.image_parts.specs.Layout.{current}
use Rattle.holder_images.proofs.Ways.{judged-sound, judged-unsound}
use Rattle.holder_images.proofs.read.judge.Goals as goal

pub is_sound-requires : goal.is_sound-requires
is_sound-requires c =
    tt

pub returns-then-is_sound : goal.returns-then-is_sound
returns-then-is_sound c =
    let x = c.args in judged-sound current x.account x.register.entries _ c.is_sound.ensures c.if-is_sound.true

pub refusal-requires : goal.refusal-requires
refusal-requires c =
    tt

pub returns : goal.returns
returns c =
    let left = c in let x = left.args in
    c.refusal.ensures ∙ judged-unsound current x.account x.register.entries _ left.is_sound.ensures left.if-is_sound.false
