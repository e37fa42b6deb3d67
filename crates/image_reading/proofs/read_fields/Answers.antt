use mathlib.Core.Path.{sym, ◌∙◌}
use native.Mathlib.Omega.{arith}
use Rattle.linked_lists.proofs.Laws.{true≢false}
use Rattle.pool_state.specs.Shown.{pool}
use Rattle.image_parts.proofs.Lawful.{small-pool}
use Rattle.image_reading.proofs.Figure.{ranges-sized, no-ranges, figure-decides}
use Rattle.image_reading.proofs.read_fields.Goals as goal

pub low_in-requires : goal.low_in-requires
low_in-requires c =
    record { lawful = c.requires.housed.lawful; form_in_bounds = omega (arith, ranges-sized c.args.form c.args.image.now (sym c.read_ranges.ensures.told ∙ c.if-read_ranges.true)) }

pub returns-then-read_ranges : goal.returns-then-read_ranges
returns-then-read_ranges c =
    let f = c.args.form in
    let told = c.read_ranges.ensures in
    figure-decides f c.args.image.now (small-pool f c.requires.housed.lawful) (sym told.told ∙ c.if-read_ranges.true) pool _
    (told.ranges c.if-read_ranges.true) _ c.low_in.ensures _ c.is_low_sound.ensures

pub returns : goal.returns
returns c =
    record {
      told = no-ranges c.args.form c.args.image.now (sym c.read_ranges.ensures.told ∙ c.if-read_ranges.false);
      state = λ e. true≢false (sym e);
    }
