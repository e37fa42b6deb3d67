use mathlib.Core.Path.{sym}
use borrow.Author.Tests.{leb-true}
use lib.Seq.{length-take-le}
use Rattle.pool_state.specs.Shown.{pool}
use Rattle.script_chunks.proofs.Answering.{closes-none, closes-line}
use Rattle.script_chunks.proofs.answer_last.Goals as goal

pub returns-then-held-eq0 : goal.returns-then-held-eq0
returns-then-held-eq0 c =
    closes-none pool _ _ _ _ c.requires.ready c.if-held-eq0.true

pub slice_bounds-answer_any-end : goal.slice_bounds-answer_any-end
slice_bounds-answer_any-end c =
    let lent = c in sym (length-take-le _ _ lent.requires.ready.held)

pub answer_any-requires : goal.answer_any-requires
answer_any-requires c =
    let lent = c in let start = lent in record { sound_in = start.requires.sound_in; pool_in_bounds = leb-true _ _ start.requires.ready.room }

pub returns : goal.returns
returns c =
    let answered = c in
    let lent = answered in
    let some = lent in
    closes-line pool _ _ _ _ _ _ _ some.requires.ready some.if-held-eq0.false answered.answer_any.ensures
