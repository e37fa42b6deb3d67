use mathlib.Core.Path.{sym, ap, ◌∙◌}
use Rattle.memory_allocator.specs.Names.{pool}
use Rattle.memory_allocator.specs.States.{states}
use Rattle.holder_rules.specs.Holders.{step}
use Rattle.holder_rules.specs.States.{holding_of}
use Rattle.holder_serve.specs.Made.{requested, held}
use Rattle.holder_serve.specs.declared.HolderRequest.{HolderRequest}
use Rattle.holder_serve.proofs.Ladders.{sound-made}
use Rattle.holder_serve.proofs.serve_holder_sound.Goals as goal

pub offer_sound-requires : goal.offer_sound-requires
offer_sound-requires c =
    c.requires

pub serve_by-requires : goal.serve_by-requires
serve_by-requires c =
    c.requires

pub returns-in-Offer : goal.returns-in-Offer
unfolding step
returns-in-Offer c =
    let q = c in let s = q in let x = s.args in
    c.offer_sound.ensures
    ∙ ap (λ (r : HolderRequest). held (step (states pool) (requested r) (holding_of x.s))) (sym q.in-Offer.is)
    ∙ sound-made pool x.s (requested x.request) s.requires

pub returns-in-By : goal.returns-in-By
returns-in-By c =
    let q = c in let s = q in let x = s.args in
    c.serve_by.ensures
    ∙ ap (λ (r : HolderRequest). held (step (states pool) (requested r) (holding_of x.s))) (sym q.in-By.is)
    ∙ sound-made pool x.s (requested x.request) s.requires
