use mathlib.Core.Path.{sym, ◌∙◌}
use Rattle.memory_allocator.specs.Names.{pool}
use Rattle.holder_serve.specs.Made.{requested}
use Rattle.holder_serve.proofs.Ladders.{unsound-made}
use Rattle.holder_serve.proofs.serve_holder.Goals as goal

pub serve_holder_sound-requires : goal.serve_holder_sound-requires
serve_holder_sound-requires c =
    sym c.is_sound.ensures ∙ c.if-is_sound.true

pub returns-then-is_sound : goal.returns-then-is_sound
returns-then-is_sound c =
    c.serve_holder_sound.ensures

pub returns : goal.returns
returns c =
    let x = c.args in unsound-made pool x.s (requested x.request) (sym c.is_sound.ensures ∙ c.if-is_sound.false)
