use lib.Dec.{lit≤}
use Rattle.pool_state.specs.Shown.{pool}
use Rattle.pool_state.proofs.Book.{sound-holds}
use Rattle.journal_audit.proofs.Ways.{call-differs, call-agrees}
use Rattle.journal_audit.proofs.audit_call.Goals as goal

pub serve_in-answer-requires : goal.serve_in-answer-requires
serve_in-answer-requires c =
    let lent = c in let s = lent in (_, sound-holds pool _ s.requires.fields)

pub returns-then-answer_bits-entry : goal.returns-then-answer_bits-entry
returns-then-answer_bits-entry c =
    let told = c in
    let served = told in
    let s = served in
    call-differs pool (lit≤ tt) _ _ _ s.args.entry _ s.requires.fields _ _ served.serve_in-answer.ensures _ told.answer_bits.ensures c.if-answer_bits-entry.true

pub returns : goal.returns
returns c =
    let told = c in
    let served = told in
    let s = served in
    call-agrees pool (lit≤ tt) _ _ _ s.args.entry _ s.requires.fields _ _ served.serve_in-answer.ensures _ told.answer_bits.ensures c.if-answer_bits-entry.false
