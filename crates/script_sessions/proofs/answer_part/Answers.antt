use mathlib.Core.Path.{sym, ◌∙◌}
use Prim.Native.Nat.{◌-◌, ◌≤◌}
use native.Mathlib.Omega.{arith}
use lib.Dec.{lit≤}
use Rattle.pool_state.specs.Shown.{pool}
use Rattle.script_sessions.proofs.Parts.{goes_none, goes_on, hears-goes, hears-on, hears-sound, ready-again}
use Rattle.script_sessions.proofs.answer_part.Goals as goal

pub answer_next-reading-requires : goal.answer_next-reading-requires
answer_next-reading-requires c =
    let lent = c in lent.requires

pub loop-reading-init : goal.loop-reading-init
loop-reading-init c =
    let answered = c in
    let lent = answered in
    let start = lent in
    let e = answered.answer_next-reading.ensures in
    let size = e.steps.size in
    let held = e.steps.held in
    let room = e.steps.room in
    let same = answered.answer_next-reading.auto.out in
    let carries = start.requires.ready.0.carries in (
      omega arith,
      hears-sound pool _ _ _ _ _ _ _ _ _ e (lit≤ tt) start.requires.ready.0 start.requires.sound_in,
      goes_none pool _ _ _ _ _ (omega arith) (omega arith) e.within,
    )

pub answer_next-reading-requires-in-loop-reading : goal.answer_next-reading-requires-in-loop-reading
answer_next-reading-requires-in-loop-reading c =
    let lent = c in
    let roomy = lent in
    let i = roomy.loop-reading.invariant in
    let carries = i.0 in
    let size = i.2.steps.size in
    let held = i.2.steps.held in
    record { sound_in = i.1; ready = (ready-again pool _ _ _ (omega arith) (omega arith) (sym roomy.has_room.ensures ∙ roomy.if-has_room.true), roomy.loop-reading-test.true) }

pub loop-reading-smaller : goal.loop-reading-smaller
loop-reading-smaller c =
    let e = c.answer_next-reading-in-loop-reading.ensures in
    let h = e.onward in
    let k = e.within in
    omega arith

pub loop-reading-preserved : goal.loop-reading-preserved
loop-reading-preserved c =
    let answered = c in
    let lent = answered in
    let roomy = lent in
    let i = roomy.loop-reading.invariant in
    let carries = i.0 in
    let size = i.2.steps.size in
    let held = i.2.steps.held in
    let e = answered.answer_next-reading-in-loop-reading.ensures in (
      i.0,
      hears-sound pool _ _ _ _ _ _ _ _ _ e (lit≤ tt) (ready-again pool _ _ _ (omega arith) (omega arith) (sym roomy.has_room.ensures ∙ roomy.if-has_room.true)) i.1,
      goes_on pool _ _ _ _ _ _ _ _ _ _ _ _ _ i.2 (hears-goes pool _ _ _ _ _ _ _ _ _ e answered.answer_next-reading-in-loop-reading.auto.out),
    )

pub shape_of-carry-else-has_room : goal.shape_of-carry-else-has_room
shape_of-carry-else-has_room c =
    let l = c in
    let first = l in
    l.loop-reading.invariant.2.steps.size ∙ first.answer_next-reading.ensures.steps.size

pub shape_of-out-else-has_room : goal.shape_of-out-else-has_room
shape_of-out-else-has_room c =
    let l = c in
    let first = l in
    l.loop-reading.invariant.2.out-size ∙ first.answer_next-reading.auto.out

pub returns-else-has_room : goal.returns-else-has_room
returns-else-has_room c =
    let l = c in
    let first = l in
    hears-on pool _ _ _ _ _ _ _ _ _ _ _ _ _ first.answer_next-reading.ensures first.answer_next-reading.auto.out l.loop-reading.invariant.2

pub shape_of-carry-after-loop-reading : goal.shape_of-carry-after-loop-reading
shape_of-carry-after-loop-reading c =
    let l = c in
    let first = l in
    l.loop-reading.invariant.2.steps.size ∙ first.answer_next-reading.ensures.steps.size

pub shape_of-out-after-loop-reading : goal.shape_of-out-after-loop-reading
shape_of-out-after-loop-reading c =
    let l = c in
    let first = l in
    l.loop-reading.invariant.2.out-size ∙ first.answer_next-reading.auto.out

pub returns-after-loop-reading : goal.returns-after-loop-reading
returns-after-loop-reading c =
    let l = c in
    let first = l in
    hears-on pool _ _ _ _ _ _ _ _ _ _ _ _ _ first.answer_next-reading.ensures first.answer_next-reading.auto.out l.loop-reading.invariant.2
