-- `print::put_number` meets its contract.
-- Assumes nothing.
use mathlib.Core.Bool.{not}
use mathlib.Core.Path.{ap}
use mathlib.Core.Path.{sym}
use Prim.Native.Nat.{◌+◌, ◌≤◌}
use native.Mathlib.Omega.{arith}
use lib.ListN.{length}
use Rattle.script_texts.specs.Answers.{digits_of}
use Rattle.script_texts.proofs.Buffers.{no_room, with-room, put-part}
use Rattle.script_texts.proofs.put_number.Goals.{Else-not-has_room}
use Rattle.script_texts.proofs.put_number.Goals as goal

-- the digits fit where the test for room was passed
room : (c : Else-not-has_room) → c.args.at + length (digits_of c.args.n) ≤ length c.args.out.now
room c =
    with-room (digits_of c.args.n) c.args.out.now c.args.at _ _ c.has_room.ensures (sym c.width-size.ensures) (ap not c.if-not-has_room.false)

pub returns-then-not-has_room : goal.returns-then-not-has_room
returns-then-not-has_room c =
    no_room (digits_of c.args.n) c.args.out.now c.args.at _ _ c.has_room.ensures (sym c.width-size.ensures) (ap not c.if-not-has_room.true)

pub overflow_add-end : goal.overflow_add-end
overflow_add-end c =
    omega (arith, room (goal.at.overflow_add-end c).Else-not-has_room, c.width-size.ensures)

pub slice_bounds-fill_digits-end : goal.slice_bounds-fill_digits-end
slice_bounds-fill_digits-end c =
    omega (arith, room (goal.at.slice_bounds-fill_digits-end c).Else-not-has_room, c.width-size.ensures)

pub returns : goal.returns
returns c =
    put-part (digits_of c.args.n) c.args.out.now _ c.args.at _ c.width-size.ensures (room (goal.at.returns c).Else-not-has_room) c.fill_digits.ensures
