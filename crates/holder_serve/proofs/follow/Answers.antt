use mathlib.Core.Path.{ap, ◌∙◌}
use Rattle.std.specs.Prelude.{Err}
use Rattle.holder_rules.specs.Holders.{both}
use Rattle.holder_serve.specs.declared.HolderError.{HolderError}
use Rattle.holder_serve.specs.declared.HolderOutcome.{HolderOutcome}
use Rattle.holder_serve.proofs.Ladders.{with, follow-refused, follow-accepted}
use Rattle.holder_serve.proofs.follow.Goals as goal

pub returns-in-Ok : goal.returns-in-Ok
returns-in-Ok c =
    let x = c.args in
    follow-accepted x.s x.served.answer _ (both x.served.state x.register.entries) c.in-Ok.is

pub returns-in-Err : goal.returns-in-Err
returns-in-Err c =
    let x = c.args in
    ap (λ (e : HolderError). with (Err e) x.s) c.into.ensures ∙ follow-refused x.s x.served.answer _ _ c.in-Err.is
