use lib.ListN.{length-replicate}
use Rattle.holder_rules.specs.Register as register
use Rattle.holder_image.proofs.entries.read_register.Goals as goal

pub fill_register-requires : goal.fill_register-requires
fill_register-requires c =
    (c.requires, length-replicate register.entries c.unused_entry.result)
