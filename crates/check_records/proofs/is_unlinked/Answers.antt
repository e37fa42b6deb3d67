use Rattle.linked_lists.specs.Links.{none}
use Rattle.check_records.specs.Records.{unlinked}
use Rattle.check_records.proofs.Bits.{four-are-most}
use Rattle.check_records.proofs.Owned.{owned-link}
use Rattle.check_records.proofs.is_unlinked.Goals as goal

pub returns : goal.returns
unfolding unlinked
returns c =
    let good = c.well_formed in
    four-are-most none _ _ _ _ (owned-link _ _ good.0) (owned-link _ _ good.1.0) (owned-link _ _ good.1.1.0) (owned-link _ _ good.1.1.1.0)
