use mathlib.Core.Bool.{not}
use mathlib.Core.Path.{ap}
use mathlib.Core.Path.{refl, sym, ◌∙◌}
use native.Mathlib.Omega.{arith}
use lib.Dec.{lit≤}
use Rattle.pool_state.specs.Shown.{pool}
use Rattle.script_answers.specs.Script.{text_of, state_after}
use Rattle.script_answers.proofs.Replies.{has-space, unanswered, answered, chain-here, listing-says}
use Rattle.script_answers.proofs.answer_line.Goals as goal

pub returns-then-not-has_room : goal.returns-then-not-has_room
returns-then-not-has_room c =
    unanswered pool _ _ _ _ _ c.has_room.ensures (ap not c.if-not-has_room.true)

pub put_listing-requires : goal.put_listing-requires
put_listing-requires c =
    let told = c in
    let roomy = told in
    let start = roomy in
    record { ordered = (_, chain-here pool (lit≤ tt) _ start.requires); pool_in_bounds = has-space pool start.args.out.now start.args.at _ roomy.has_room.ensures (ap not roomy.if-not-has_room.false) }

pub returns-in-Asks : goal.returns-in-Asks
returns-in-Asks c =
    let served = c in
    let lent = served in
    let asked = lent in
    let roomy = asked in
    answered pool _ _ _ _ _ roomy.has_room.ensures (ap not roomy.if-not-has_room.false) _ _ _ _ (sym asked.parse_line.ensures ∙ asked.in-Asks.is) served.answer_request.ensures

pub returns-in-List : goal.returns-in-List
returns-in-List c =
    let printed = c in
    let told = printed in
    let roomy = told in
    let start = roomy in
    answered pool _ _ _ _ _ roomy.has_room.ensures (ap not roomy.if-not-has_room.false) _ _ _ _ (sym told.parse_line.ensures ∙ told.in-List.is)
    (listing-says pool (lit≤ tt) _ start.requires _ _ _ _ (printed.put_listing.ensures _ (chain-here pool (lit≤ tt) _ start.requires)))

pub returns-in-Bad : goal.returns-in-Bad
unfolding text_of state_after
returns-in-Bad c =
    let told = c in
    let roomy = told in
    answered pool _ _ _ _ _ roomy.has_room.ensures (ap not roomy.if-not-has_room.false) _ _ _ _ (sym told.parse_line.ensures ∙ told.in-Bad.is)
    (record { state = refl; text = record { short = omega arith; puts = c.put_bad.ensures } })
