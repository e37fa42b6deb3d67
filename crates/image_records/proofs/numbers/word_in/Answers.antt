use Rattle.image_parts.specs.Layout.{word}
use Rattle.image_parts.proofs.Loops.{part_length, part-read}
use Rattle.image_records.proofs.numbers.word_in.Goals as goal

pub read_word-requires : goal.read_word-requires
read_word-requires c =
    part_length c.args.image.now c.args.at word c.requires

pub returns : goal.returns
returns c =
    let start = c in
    part-read start.args.image.now start.args.at word start.requires _ c.read_word.ensures
