use Prim.Native.Nat.{◌<◌, ◌≤◌, ◌-◌}
use mathlib.Core.Path.{refl, ◌∙◌}
use native.Mathlib.Omega.{arith}
use lib.Dec.{lit≤}
use mir.Syntax.{w64}
use mir.Facts.{to_z-of_z}
use lib.ListN.{length, length-set}
use Rattle.pool_state.specs.Shown.{pool}
use Rattle.batch.specs.InWords.{asked}
use Rattle.batch.proofs.InWords.{asked-length}
use Rattle.batch.proofs.Going.{going_start, going-holds, going-below, going_on, going_end, going-room}
use Rattle.batch.proofs.in_place.serve_list_in.Goals.{In-loop-k}
use Rattle.batch.proofs.in_place.serve_list_in.Goals as goal

pub loop-k-init : goal.loop-k-init
loop-k-init c =
    (refl, going_start pool (lit≤ tt) _ _ _ c.requires.sound_in)

-- in a turn, there is a call to serve,
more : (c : In-loop-k) → c.loop-k.k < length (asked c.args.calls.now)
more c = omega (arith, asked-length c.args.calls.now)

-- and a place for its answer
room : (c : In-loop-k) → let start = c.args in length (asked start.calls.now) ≤ length start.answers.now
room c = going-room _ _ c.requires.answers_value

pub words_at-words-requires : goal.words_at-words-requires
words_at-words-requires c =
    more (goal.at.words_at-words-requires c).In-loop-k

pub serve_words_in-answer-requires : goal.serve_words_in-answer-requires
serve_words_in-answer-requires c =
    let lent = c in
    let turn = lent in
    (_, going-holds pool (lit≤ tt) _ _ _ _ _ _ turn.loop-k.invariant.1)

pub noted-requires : goal.noted-requires
noted-requires c =
    tt

pub signed_number-number-requires : goal.signed_number-number-requires
signed_number-number-requires c =
    let served = c in
    let lent = served in
    let worded = lent in
    going-below pool (lit≤ tt) _ _ _ _ _ _ worded.loop-k.invariant.1 _ worded.words_at-words.ensures _ _ served.serve_words_in-answer.ensures

pub offset_bounds-answers-k : goal.offset_bounds-answers-k
offset_bounds-answers-k c =
    let turn = c in let g = turn.well_formed.1 in omega (arith, more (goal.at.offset_bounds-answers-k turn).In-loop-k, room (goal.at.offset_bounds-answers-k turn).In-loop-k)

pub bounds-answers-k : goal.bounds-answers-k
bounds-answers-k c =
    let turn = c in omega (arith, more (goal.at.bounds-answers-k turn).In-loop-k, room (goal.at.bounds-answers-k turn).In-loop-k, turn.loop-k.invariant.0)

pub loop-k-preserved : goal.loop-k-preserved
loop-k-preserved c =
    let noted = c in
    let served = noted in
    let back = served in
    let worded = back in
    let turn = worded in
    let inv = turn.loop-k.invariant in
    let number = to_z-of_z {w = w64} (record { sfits = c.signed_number-number.type_inv }) ∙ c.signed_number-number.ensures in
    (simp length-set inv.0, going_on pool (lit≤ tt) _ _ _ _ _ _ inv.1 _ worded.words_at-words.ensures _ _ served.serve_words_in-answer.ensures _ noted.noted.ensures _ number (more (goal.at.loop-k-preserved turn).In-loop-k) (room (goal.at.loop-k-preserved turn).In-loop-k))

pub returns : goal.returns
returns c =
    going_end pool (lit≤ tt) _ _ _ _ _ _ c.loop-k.invariant.1 (omega (arith, asked-length c.args.calls.now))
