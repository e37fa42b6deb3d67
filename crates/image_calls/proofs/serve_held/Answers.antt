use mathlib.Core.Path.{sym, ◌∙◌}
use Rattle.image_parts.specs.Layout.{current}
use Rattle.image_parts.proofs.Lawful.{lawful-current}
use Rattle.image_calls.proofs.Lists.{held-sized, held-sound, list-unfitted, list-stands, list_written}
use Rattle.image_calls.proofs.serve_held.Goals as goal

pub serve_list_in-requires : goal.serve_list_in-requires
serve_list_in-requires c =
    let fitting = c in
    let tested = fitting in
    let start = tested in
    record { sound_in = held-sound current _ start.args.calls.now start.args.answers.now _ start.requires lawful-current; answers_value = sym tested.list_fits.ensures ∙ fitting.if-list_fits.true }

pub write_fields-requires : goal.write_fields-requires
write_fields-requires c =
    let served = c in
    let fitting = served in
    let tested = fitting in
    let known = tested in
    let start = known in record {
      image_len = held-sized current _ start.args.calls.now start.args.answers.now _ start.requires;
      stands = λ e. list-stands current _ _ _ _ start.requires lawful-current (sym tested.list_fits.ensures ∙ fitting.if-list_fits.true) _ _ served.serve_list_in.ensures
          (λ i b. (known.slice_known-1.given i).fits);
    }

pub returns-then-list_fits : goal.returns-then-list_fits
returns-then-list_fits c =
    let written = c in
    let served = written in
    let fitting = served in
    let tested = fitting in
    let start = tested in
    list_written current _ _ _ _ start.requires lawful-current (sym tested.list_fits.ensures ∙ fitting.if-list_fits.true) _ _ served.serve_list_in.ensures _ written.write_fields.ensures

pub returns : goal.returns
returns c =
    let tested = c in
    list-unfitted current _ _ _ _ tested.requires (sym tested.list_fits.ensures ∙ c.if-list_fits.false)
