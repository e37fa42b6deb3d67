use mathlib.Core.Path.{ap, ◌∙◌}
use Rattle.linked_lists.proofs.Laws.{true≢false}
use Rattle.pool_state.specs.Shown.{pool}
use Rattle.pool_state.proofs.States.{fresh-state}
use Rattle.pool_state.specs.declared.MemoryAllocator.{MemoryAllocator}
use Rattle.rules_lowest.specs.Lowest.{never}
use Rattle.account_state.specs.Account.{account}
use Rattle.image_parts.specs.Layout.{current}
use Rattle.image_writing.specs.Writing.{image_of}
use Rattle.c_over.proofs.Ways.{no_room, new-done}
use Rattle.c_calls.proofs.cinghjalofa_new.Goals as goal

pub returns-then-image-ne-IMAGE : goal.returns-then-image-ne-IMAGE
returns-then-image-ne-IMAGE c =
    no_room current _ c.if-image-ne-IMAGE.true

pub write_fields-requires : goal.write_fields-requires
write_fields-requires c =
    let sized = c in
    record { image_len = sized.if-image-ne-IMAGE.false; stands = λ e. true≢false e }

pub returns : goal.returns
returns c =
    let written = c in
    let sized = written in
    new-done current _ sized.if-image-ne-IMAGE.false _ (written.write_fields.ensures ∙ ap (λ (s : MemoryAllocator). image_of current (account s never)) (fresh-state pool))
