use mathlib.Core.Path.{◌∙◌}
use Rattle.image.proofs.Ways.{housed-told, by-told, any-unread, any-read}
use Rattle.image.proofs.read.read_image.Goals as goal

pub layout_of-form-requires : goal.layout_of-form-requires
layout_of-form-requires c =
    tt

pub read_fields-requires : goal.read_fields-requires
read_fields-requires c =
    let told = c in
    record { housed = housed-told _ told.args.image.now told.layout_of-form.ensures; fresh_fields = c.new-ranges.ensures }

pub returns-then-read_fields : goal.returns-then-read_fields
returns-then-read_fields c =
    let told = c in
    let read = by-told _ _ _ _ told.layout_of-form.ensures c.read_fields.ensures in
    any-read _ _ read.told c.if-read_fields.true _ (read.state c.if-read_fields.true)

pub refusal-requires : goal.refusal-requires
refusal-requires c =
    tt

pub returns : goal.returns
returns c =
    let tested = c in
    let told = tested in
    let read = by-told _ _ _ _ told.layout_of-form.ensures tested.read_fields.ensures in
    c.refusal.ensures ∙ any-unread _ _ read.told tested.if-read_fields.false
