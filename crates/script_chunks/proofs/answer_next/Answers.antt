use mathlib.Core.Path.{sym, ◌∙◌}
use native.Mathlib.Omega.{arith}
use lib.ListN.{length}
use Rattle.pool_state.specs.Shown.{pool}
use Rattle.script_chunks.specs.Input.{between}
use Rattle.script_chunks.proofs.Hearing.{quiet, end-within, end-heard}
use Rattle.script_chunks.proofs.Answering.{roomy-within, hears, rest-steps}
use Rattle.script_chunks.proofs.answer_next.Goals as goal

pub answer_ended-requires : goal.answer_ended-requires
answer_ended-requires c =
    let lent = c in
    let found = lent in
    let start = found in
    let h = start.requires.ready.1 in
    let w = end-within pool start.args.chunk.now _ _ (omega arith) (sym found.in-Some.is ∙ found.find_newline.ensures) in
    record { sound_in = start.requires.sound_in; ready = (start.requires.ready.0, w.0, w.1) }

pub hold_rest-requires : goal.hold_rest-requires
hold_rest-requires c =
    let start = c in let h = start.requires.ready.1 in (start.requires.ready.0.held, omega arith)

pub returns-in-Some : goal.returns-in-Some
returns-in-Some c =
    let ended = c in
    let lent = ended in
    let found = lent in
    let start = found in
    let h = start.requires.ready.1 in
    let e = sym found.in-Some.is ∙ found.find_newline.ensures in
    let w = end-within pool start.args.chunk.now _ _ (omega arith) e in
    let low = w.0 in
    let high = w.1 in
    hears pool _ _ _ _ _ _ _ _ _ _ _ (omega arith) (omega arith) (λ t. end-heard pool start.args.chunk.now _ _ (omega arith) e t) ended.answer_ended.ensures

pub returns-in-None : goal.returns-in-None
returns-in-None c =
    let rested = c in
    let told = rested in
    let start = told in
    let e = sym told.find_newline.ensures ∙ told.in-None.is in
    hears pool _ _ _ _ _ _ _ _ _ _ _ start.requires.ready.1 (omega arith) (λ t. quiet pool t (between start.args.r.from (length start.args.chunk.now) start.args.chunk.now) _ e)
    (rest-steps _ _ _ _ _ _ _ _ (roomy-within pool start.args.out.now start.args.r.at start.requires.ready.0.room) rested.hold_rest.ensures)
