-- `print::put_ending` meets its contract.
-- Assumes nothing.
use mathlib.Core.Bool.{not}
use mathlib.Core.Path.{ap}
use mathlib.Core.List.{[], ◌∷◌}
use native.Mathlib.Omega.{arith}
use Rattle.script_texts.specs.Answers.{digits_of, ending}
use Rattle.script_texts.proofs.Decimal.{at-most-twenty}
use Rattle.script_texts.proofs.Buffers.{no_room, with-room, put_then, length-ending}
use Rattle.script_texts.proofs.put_ending.Goals as goal

pub overflow_add-width : goal.overflow_add-width
overflow_add-width c =
    omega (arith, c.width.ensures, at-most-twenty c.args.n (omega arith))

pub returns-then-not-has_room : goal.returns-then-not-has_room
returns-then-not-has_room c =
    no_room (ending c.args.n) c.args.out.now c.args.at _ _ c.has_room.ensures (omega (arith, length-ending c.args.n, c.width.ensures)) (ap not c.if-not-has_room.true)

pub returns : goal.returns
unfolding ending
returns c =
    let room = with-room (ending c.args.n) c.args.out.now c.args.at _ _ c.has_room.ensures (omega (arith, length-ending c.args.n, c.width.ensures))
    (ap not c.if-not-has_room.false) in
    put_then (digits_of c.args.n) (10 ∷ []) c.args.out.now _ _ c.args.at _ _ room c.put_number-next.ensures c.put_bytes.ensures
