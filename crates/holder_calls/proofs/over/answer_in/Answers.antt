use mathlib.Core.Path.{◌∙◌}
use lib.Dec.{lit≤}
use mir.Syntax.{w64}
use mir.Facts.{to_z-of_z}
use Rattle.pool_state.specs.Shown.{pool}
use Rattle.pool_state.proofs.Book.{sound-holds}
use Rattle.calls.specs.Calls.{call_of}
use Rattle.holder_calls.proofs.Fields.{address_below, answered}
use Rattle.holder_calls.proofs.over.answer_in.Goals as goal

pub serve_in-answer-requires : goal.serve_in-answer-requires
serve_in-answer-requires c =
    (_, sound-holds pool _ c.requires.ranges)

pub signed_number-requires : goal.signed_number-requires
signed_number-requires c =
    let served = c in let start = served in
    address_below pool _ start.requires (call_of start.args.request) _ _ served.serve_in-answer.ensures

pub returns : goal.returns
returns c =
    let noted = c in let served = noted in let start = served in
    answered pool _ start.requires (call_of start.args.request) _ _ served.serve_in-answer.ensures (lit≤ tt) _ noted.noted.ensures _ (to_z-of_z {w = w64} (record { sfits = c.signed_number.type_inv }) ∙ c.signed_number.ensures)
