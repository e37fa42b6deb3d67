use mathlib.Core.Bool.{not}
use mathlib.Core.Path.{ap}
use mathlib.Core.Path.{refl, ◌∙◌}
use Prim.Native.Nat.{◌+◌, ◌≤◌}
use native.Mathlib.Omega.{arith}
use lib.ListN.{length}
use Rattle.script_texts.proofs.Buffers.{no_room, with-room, put-part, copied}
use Rattle.script_texts.proofs.put_bytes.Goals.{Else-not-has_room}
use Rattle.script_texts.proofs.put_bytes.Goals as goal

-- the text fits where the test for room was passed
room : (c : Else-not-has_room) → c.args.at + length c.args.text.now ≤ length c.args.out.now
room c =
    with-room c.args.text.now c.args.out.now c.args.at _ _ c.has_room.ensures refl (ap not c.if-not-has_room.false)

pub returns-then-not-has_room : goal.returns-then-not-has_room
returns-then-not-has_room c =
    no_room c.args.text.now c.args.out.now c.args.at _ _ c.has_room.ensures refl (ap not c.if-not-has_room.true)

pub overflow_add-end : goal.overflow_add-end
overflow_add-end c =
    omega (arith, room (goal.at.overflow_add-end c).Else-not-has_room)

pub returns : goal.returns
returns c =
    put-part c.args.text.now c.args.out.now _ c.args.at _ refl (room (goal.at.returns c).Else-not-has_room)
    c.copy_from_slice.ensures.after
