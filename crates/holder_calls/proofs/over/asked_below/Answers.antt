use mathlib.Core.Path.{sym, ap}
use Rattle.holder_rules.specs.Holders.{below}
use Rattle.holder_serve.specs.Made.{requested}
use Rattle.holder_serve.specs.declared.HolderRequest.{HolderRequest}
use Rattle.holder_calls.proofs.over.asked_below.Goals as goal

pub returns-in-Offer : goal.returns-in-Offer
returns-in-Offer c =
    ap (λ (q : HolderRequest). below (requested q)) (sym c.in-Offer.is)
