use Prim.Native.Nat.{◌-◌}
use mathlib.Core.Path.{ap, ◌∙◌}
use native.Mathlib.Omega.{arith}
use lib.ListN.{length, length-take, length-drop}
use Rattle.linked_lists.proofs.Laws.{true≢false}
use Rattle.pool_state.specs.Shown.{pool}
use Rattle.pool_state.proofs.States.{fresh-state}
use Rattle.pool_state.specs.declared.MemoryAllocator.{MemoryAllocator}
use Rattle.rules_lowest.specs.Lowest.{never}
use Rattle.account_state.specs.Account.{account}
use Rattle.image_parts.specs.Layout.{current}
use Rattle.image_parts.proofs.Lawful.{figured-current}
use Rattle.image_writing.specs.Writing.{image_of}
use Rattle.holder_image.specs.Layout.{memory_at}
use Rattle.holder_calls.proofs.Begins.{no_room, new-done}
use Rattle.c_calls.proofs.holders.cinghjalofa_holders_new.Goals as goal

pub returns-then-image-ne-HOLDERS_IMAGE : goal.returns-then-image-ne-HOLDERS_IMAGE
returns-then-image-ne-HOLDERS_IMAGE c =
    no_room current figured-current c.args.image.now c.if-image-ne-HOLDERS_IMAGE.true

pub write_fields-requires : goal.write_fields-requires
write_fields-requires c =
    let sized = c in let h = sized.if-image-ne-HOLDERS_IMAGE.false in
    record { image_len = simp (length-take, length-drop) (omega arith); stands = λ e. true≢false e }

pub returns : goal.returns
returns c =
    let f = c in let r = f in let w = r in
    let e = w in let x = e.args in let h = e.if-image-ne-HOLDERS_IMAGE.false in
    new-done current figured-current x.image.now h (length x.image.now - memory_at) (omega arith) _
    (w.write_fields.ensures ∙ ap (λ (s : MemoryAllocator). image_of current (account s never)) (fresh-state pool)) _ r.no_entries.ensures _ f.write_front.ensures
