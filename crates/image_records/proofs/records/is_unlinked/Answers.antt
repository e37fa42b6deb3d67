use Prim.Native.Nat.{ℕ, ◌+◌, ◌*◌, ◌≤◌}
use mathlib.Core.Path.{ap, ◌∙◌}
use native.Mathlib.Omega.{arith}
use lib.Dec.{eqb}
use Rattle.image_parts.specs.Layout.{no_link}
use Rattle.image_records.proofs.Rooms.{link-room}
use Rattle.image_records.proofs.Tests.{unlinked-by, unlinked-word}
use Rattle.image_records.proofs.records.is_unlinked.Goals.{After-link_number_in-lnext}
use Rattle.image_records.proofs.records.is_unlinked.Goals as goal

pub word_in-requires : goal.word_in-requires
word_in-requires c =
    let room = c.requires.link_in_bounds in omega (arith, c.if-width-eq2.true)

pub returns-then-width-eq2 : goal.returns-then-width-eq2
returns-then-width-eq2 c =
    let taken = c in
    let known = taken in
    let start = known in
    let room = start.requires.link_in_bounds in
    unlinked-word start.args.form start.args.image.now start.args.at (λ i b. (known.type_inv.image i).fits) (omega (arith, taken.if-width-eq2.true)) _ taken.if-width-eq2.true c.word_in.ensures

pub link_number_in-previous-requires : goal.link_number_in-previous-requires
link_number_in-previous-requires c =
    let start = c in record { lawful = start.requires.lawful; link_in_bounds = link-room _ _ 0 _ (omega arith) start.requires.link_in_bounds }

pub link_number_in-next-requires : goal.link_number_in-next-requires
link_number_in-next-requires c =
    let start = c in record { lawful = start.requires.lawful; link_in_bounds = link-room _ _ 1 _ (omega arith) start.requires.link_in_bounds }

pub link_number_in-lprev-requires : goal.link_number_in-lprev-requires
link_number_in-lprev-requires c =
    let start = c in record { lawful = start.requires.lawful; link_in_bounds = link-room _ _ 2 _ (omega arith) start.requires.link_in_bounds }

pub link_number_in-lnext-requires : goal.link_number_in-lnext-requires
link_number_in-lnext-requires c =
    let start = c in record { lawful = start.requires.lawful; link_in_bounds = link-room _ _ 3 _ (omega arith) start.requires.link_in_bounds }

-- none of the four is above 65535
most : (c : After-link_number_in-lnext) → no_link c.args.form ≤ 65535
most c = c.requires.lawful.links

pub overflow_add-result : goal.overflow_add-result
overflow_add-result c =
    let m = most (goal.at.overflow_add-result c).After-link_number_in-lnext in
    let p = c.link_number_in-previous.ensures.fits in
    let n = c.link_number_in-next.ensures.fits in
    omega arith

pub overflow_add-result-2 : goal.overflow_add-result-2
overflow_add-result-2 c =
    let m = most (goal.at.overflow_add-result-2 c).After-link_number_in-lnext in
    let p = c.link_number_in-previous.ensures.fits in
    let n = c.link_number_in-next.ensures.fits in
    let q = c.link_number_in-lprev.ensures.fits in
    omega arith

pub overflow_add-result-3 : goal.overflow_add-result-3
overflow_add-result-3 c =
    let m = most (goal.at.overflow_add-result-3 c).After-link_number_in-lnext in
    let p = c.link_number_in-previous.ensures.fits in
    let n = c.link_number_in-next.ensures.fits in
    let q = c.link_number_in-lprev.ensures.fits in
    let r = c.link_number_in-lnext.ensures.fits in
    omega arith

pub no_link-requires : goal.no_link-requires
no_link-requires c =
    c.requires.lawful

pub overflow_mul-result : goal.overflow_mul-result
overflow_mul-result c =
    let m = most (goal.at.overflow_mul-result c).After-link_number_in-lnext in omega (arith, c.no_link.ensures)

pub returns : goal.returns
returns c =
    let fourth = c in
    let third = fourth in
    let second = third in
    let first = second in
    let start = first in
    ap (λ (n : ℕ). eqb (first.link_number_in-previous.result + second.link_number_in-next.result + third.link_number_in-lprev.result + fourth.link_number_in-lnext.result) (n * 4)) c.no_link.ensures
    ∙ unlinked-by start.args.form start.args.image.now start.args.at _ _ _ _
    (record { number = first.link_number_in-previous.ensures.value; most = first.link_number_in-previous.ensures.fits })
    (record { number = second.link_number_in-next.ensures.value; most = second.link_number_in-next.ensures.fits })
    (record { number = third.link_number_in-lprev.ensures.value; most = third.link_number_in-lprev.ensures.fits })
    (record { number = fourth.link_number_in-lnext.ensures.value; most = fourth.link_number_in-lnext.ensures.fits })
