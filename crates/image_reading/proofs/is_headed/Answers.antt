use Prim.Native.Nat.{ℕ, ◌-◌}
use mathlib.Core.Path.{sym, ◌∙◌, ap}
use native.Mathlib.Omega.{arith}
use lib.Dec.{eqb}
use Rattle.image_parts.specs.Layout.{total_at}
use Rattle.image_reading.proofs.Tests.{headed-not, headed-version, headed-rest}
use Rattle.image_reading.proofs.is_headed.Goals as goal

pub image_size-size-requires : goal.image_size-size-requires
image_size-size-requires c =
    c.requires

pub returns-then-image-size : goal.returns-then-image-size
returns-then-image-size c =
    headed-not c.args.form c.args.image.now (λ e. c.if-image-size.true (e ∙ sym c.image_size-size.ensures))

pub slice_bounds-read_be-end : goal.slice_bounds-read_be-end
slice_bounds-read_be-end c =
    let e = c.image_size-size.ensures in omega (arith, c.if-image-size.false)

pub returns-then-read_be-version : goal.returns-then-read_be-version
returns-then-read_be-version c =
    headed-version c.args.form c.args.image.now (c.if-image-size.false ∙ c.image_size-size.ensures) _ c.read_be.ensures.value c.if-read_be-version.true

pub slice_bounds-read_be-end-2 : goal.slice_bounds-read_be-end-2
slice_bounds-read_be-end-2 c =
    let e = c.image_size-size.ensures in
    omega (arith, c.if-image-size.false)

pub overflow_sub-result : goal.overflow_sub-result
overflow_sub-result c =
    let e = c.image_size-size.ensures in
    omega arith

pub returns : goal.returns
returns c =
    let size = c.image_size-size.ensures in
    ap (λ (n : ℕ). eqb c.read_be-2.result (n - total_at)) size
    ∙ headed-rest c.args.form c.args.image.now (c.if-image-size.false ∙ size) _ c.read_be.ensures.value c.if-read_be-version.false _ c.read_be-2.ensures.value
