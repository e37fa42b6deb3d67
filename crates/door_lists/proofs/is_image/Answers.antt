use Rattle.door_lists.proofs.is_image.Goals as goal

pub read_current-requires : goal.read_current-requires
read_current-requires c =
    c.new-ranges.ensures

pub returns : goal.returns
returns c =
    c.read_current.ensures.told
