use native.Mathlib.Omega.{arith}
use Rattle.image_parts.specs.Layout.{current, records_at_lem}
use Rattle.image_parts.proofs.Parts.{put_front}
use Rattle.image_writing.specs.Writing.{image_of}
use Rattle.image_writing.proofs.write_fields.Goals as goal

pub returns : goal.returns
unfolding image_of
returns c =
    put_front c.args.image.now c.write_records.new.image c.write_head.new.part _ _ (records_at_lem current) (omega (arith, c.requires.image_len))
    c.write_records.ensures c.write_head.ensures
