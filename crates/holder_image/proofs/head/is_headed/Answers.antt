use Rattle.image_parts.specs.Layout.{current}
use Rattle.holder_image.proofs.Parts.{headed-not, headed-version, headed-rest}
use Rattle.holder_image.proofs.head.is_headed.Goals as goal

pub returns-then-image-ne-HOLDERS_IMAGE : goal.returns-then-image-ne-HOLDERS_IMAGE
returns-then-image-ne-HOLDERS_IMAGE c =
    headed-not current c.args.image.now c.if-image-ne-HOLDERS_IMAGE.true

pub returns-then-read_be-ne-VERSION : goal.returns-then-read_be-ne-VERSION
returns-then-read_be-ne-VERSION c =
    let r = c in let s = r in headed-version current s.args.image.now s.if-image-ne-HOLDERS_IMAGE.false _ r.read_be.ensures.value c.if-read_be-ne-VERSION.true

pub returns : goal.returns
returns c =
    let t = c in let r = t in let s = r in
    headed-rest current s.args.image.now s.if-image-ne-HOLDERS_IMAGE.false _ r.read_be.ensures.value t.if-read_be-ne-VERSION.false _ c.read_be-2.ensures.value
