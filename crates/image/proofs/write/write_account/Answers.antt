use Rattle.linked_lists.proofs.Laws.{true≢false}
use Rattle.image.proofs.write.write_account.Goals as goal

pub write_fields-requires : goal.write_fields-requires
write_fields-requires c =
    let lent = c in
    let start = lent in
    record { image_len = start.requires; stands = λ e. true≢false e }
