use mathlib.Core.Path.{ap, ◌∙◌}
use Rattle.image_parts.specs.Read.{link_of}
use Rattle.image_records.proofs.numbers.link_in.Goals as goal

pub link_number_in-requires : goal.link_number_in-requires
link_number_in-requires c =
    c.requires

pub link_of-requires : goal.link_of-requires
link_of-requires c =
    record { lawful = c.requires.lawful; x_bound = c.link_number_in.ensures.fits }

pub returns : goal.returns
returns c =
    c.link_of.ensures ∙ ap (link_of c.args.form) c.link_number_in.ensures.value
