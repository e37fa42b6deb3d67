use mathlib.Core.Path.{sym, ◌∙◌}
use Rattle.rules.specs.Rules.{step}
use Rattle.pool_state.specs.Shown.{pool}
use Rattle.calls.specs.Calls.{call_of}
use Rattle.account_state.proofs.Exact.{both}
use Rattle.account_calls.proofs.Judged.{unsound-judged, served-judged}
use Rattle.account_calls.proofs.serve.Goals as goal

pub serve_sound-served-requires : goal.serve_sound-served-requires
serve_sound-served-requires c =
    (both _ _ (sym c.is_sound.ensures ∙ c.if-is_sound.true)).0

pub returns-then-is_sound : goal.returns-then-is_sound
returns-then-is_sound c =
    let served = c in
    let taken = served in
    let tested = taken in
    served-judged pool _ (step pool (call_of tested.args.request)) _ _ (sym tested.is_sound.ensures ∙ taken.if-is_sound.true) served.serve_sound-served.ensures c.noted-lowest.ensures

pub returns : goal.returns
returns c =
    unsound-judged pool _ _ (sym c.is_sound.ensures ∙ c.if-is_sound.false)
