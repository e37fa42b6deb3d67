use Rattle.linked_lists.proofs.Laws.{true≢false}
use Rattle.image.proofs.Ways.{housed-told, by-told}
use Rattle.image_upgrade.proofs.Ways.{another-length, no-image, written-anew}
use Rattle.image_upgrade.proofs.upgrade_image.Goals as goal

pub returns-then-image-ne-IMAGE : goal.returns-then-image-ne-IMAGE
returns-then-image-ne-IMAGE c =
    another-length _ _ c.if-image-ne-IMAGE.true

pub layout_of-form-requires : goal.layout_of-form-requires
layout_of-form-requires c =
    tt

pub read_fields-requires : goal.read_fields-requires
read_fields-requires c =
    let told = c in
    let start = told in
    record { housed = housed-told _ start.args.old.now told.layout_of-form.ensures; fresh_fields = c.new-ranges.ensures }

pub write_fields-requires : goal.write_fields-requires
write_fields-requires c =
    let taken = c in
    let told = taken in
    record { image_len = told.if-image-ne-IMAGE.false; stands = λ e. true≢false e }

pub returns-then-read_fields : goal.returns-then-read_fields
returns-then-read_fields c =
    let wrote = c in
    let taken = wrote in
    let told = taken in
    let start = told in
    let read = by-told _ start.args.old.now _ _ told.layout_of-form.ensures taken.read_fields.ensures in
    written-anew start.args.old.now _ told.if-image-ne-IMAGE.false _ _ read taken.if-read_fields.true _ wrote.write_fields.ensures

pub returns : goal.returns
returns c =
    let told = c in
    let start = told in
    let read = by-told _ start.args.old.now _ _ told.layout_of-form.ensures c.read_fields.ensures in
    no-image start.args.old.now _ told.if-image-ne-IMAGE.false _ _ read c.if-read_fields.false
