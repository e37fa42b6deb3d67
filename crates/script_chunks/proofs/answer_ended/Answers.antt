use mathlib.Core.Path.{sym}
use native.Mathlib.Omega.{arith}
use borrow.Author.Tests.{leb-true}
use lib.Seq.{length-take-le}
use Rattle.pool_state.specs.Shown.{pool}
use Rattle.script_chunks.proofs.Answering.{ended-steps}
use Rattle.script_chunks.proofs.answer_ended.Goals as goal

pub hold-held-requires : goal.hold-held-requires
hold-held-requires c =
    let start = c in (start.requires.ready.0.held, start.requires.ready.1, let h = start.requires.ready.2 in omega arith)

pub slice_bounds-answer_any-end-2 : goal.slice_bounds-answer_any-end-2
slice_bounds-answer_any-end-2 c =
    let lent = c in
    let j = lent.hold-held.ensures in
    let a = j.size in
    let b = j.within in
    sym (length-take-le _ _ (omega arith))

pub answer_any-at-requires : goal.answer_any-at-requires
answer_any-at-requires c =
    let lent = c in
    let held = lent in
    let start = held in
    record { sound_in = start.requires.sound_in; pool_in_bounds = leb-true _ _ start.requires.ready.0.room }

pub returns : goal.returns
returns c =
    let answered = c in
    let lent = answered in
    let held = lent in
    ended-steps pool _ _ _ _ _ _ _ _ _ _ _ held.requires.ready.0 held.hold-held.ensures answered.answer_any-at.ensures
