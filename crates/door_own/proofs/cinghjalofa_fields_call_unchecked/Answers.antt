use mathlib.Core.Path.{◌∙◌}
use lib.Dec.{lit≤}
use mir.Syntax.{w64}
use mir.Facts.{to_z-of_z}
use Rattle.pool_state.specs.Shown.{pool}
use Rattle.pool_state.proofs.Book.{sound-holds}
use Rattle.batch.specs.InWords.{asked_by_lem}
use Rattle.door_own.proofs.Own.{served-here, below-here, asked-as}
use Rattle.door_own.proofs.cinghjalofa_fields_call_unchecked.Goals as goal

pub serve_words_in-answer-requires : goal.serve_words_in-answer-requires
serve_words_in-answer-requires c =
    let worded = c in
    (_, sound-holds pool _ worded.requires.ranges)

pub signed_number-requires : goal.signed_number-requires
signed_number-requires c =
    let served = c in
    let worded = served in
    below-here pool _ _ (asked_by_lem worded.in_bytes-words.result) _ worded.requires served.serve_words_in-answer.ensures

pub returns : goal.returns
returns c =
    let noted = c in
    let served = noted in
    let worded = served in
    let number = to_z-of_z {w = w64} (record { sfits = c.signed_number.type_inv }) ∙ c.signed_number.ensures in
    asked-as pool _ _ _ _ _ worded.in_bytes-words.ensures (served-here pool (lit≤ tt) _ _ worded.requires _ _ served.serve_words_in-answer.ensures _ noted.noted.ensures _ number)
