use mathlib.Core.Bool.{true}
use mathlib.Core.Path.{◌≡◌, sym, ◌∙◌}
use native.Mathlib.Omega.{arith}
use lib.ListN.{length}
use Rattle.image_parts.specs.Layout.{current}
use Rattle.holder_image.specs.Layout.{whole_size}
use Rattle.holder_image.specs.Bytes.{headed}
use Rattle.holder_image.proofs.Parts.{headed-size}
use Rattle.holder_images.proofs.Ways.{not-headed, part-read, part-refused}
use Rattle.holder_images.proofs.read.read_holders_image.Goals.{Else-not-is_headed}
use Rattle.holder_images.proofs.read.read_holders_image.Goals as goal

headed-told : (c : Else-not-is_headed) → headed current c.args.image.now ≡ true
headed-told c = sym c.is_headed.ensures ∙ c.if-not-is_headed.false

sized : (c : Else-not-is_headed) → length c.args.image.now ≡ whole_size current
sized c = headed-size current c.args.image.now (headed-told c)

pub slice_bounds-read_image-count : goal.slice_bounds-read_image-count
slice_bounds-read_image-count c =
    let n = sized (goal.at.slice_bounds-read_image-count c).Else-not-is_headed in omega arith

pub slice_bounds-read_image-start : goal.slice_bounds-read_image-start
slice_bounds-read_image-start c =
    let n = sized (goal.at.slice_bounds-read_image-start c).Else-not-is_headed in omega arith

pub read_register-requires : goal.read_register-requires
read_register-requires c =
    let n = sized (goal.at.read_register-requires c).Else-not-is_headed in omega arith

pub returns-in-Ok : goal.returns-in-Ok
returns-in-Ok c =
    part-read c.args.image.now (headed-told (goal.at.returns-in-Ok c).Else-not-is_headed) _ _ c.read_image-read.ensures c.in-Ok.is _ c.read_register.ensures _ c.judge.ensures

pub returns-in-Err : goal.returns-in-Err
returns-in-Err c =
    part-refused c.args.image.now (headed-told (goal.at.returns-in-Err c).Else-not-is_headed) _ _ c.read_image-read.ensures c.in-Err.is _ c.refusal-in-Err.ensures

pub returns-then-not-is_headed : goal.returns-then-not-is_headed
returns-then-not-is_headed c =
    c.refusal.ensures ∙ not-headed current c.args.image.now (sym c.is_headed.ensures ∙ c.if-not-is_headed.true)
