use mathlib.Core.Path.{sym, ap}
use Rattle.holder_replies.specs.Replies.{below_of}
use Rattle.holder_replies.proofs.request_below.Goals as goal

pub returns-in-Offer : goal.returns-in-Offer
returns-in-Offer c =
    sym (ap below_of c.in-Offer.is)
