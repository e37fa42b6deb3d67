use borrow.Author.Rules.{rules}
use Rattle.holder_check.proofs.is_register_sound.Goals as goal

pub is_register_sound_beside-requires : goal.is_register_sound_beside-requires
is_register_sound_beside-requires c =
    λ first last o b. search rules

pub returns : goal.returns
returns c =
    c.is_register_sound_beside.ensures _ (λ first last b o w e. search rules)
