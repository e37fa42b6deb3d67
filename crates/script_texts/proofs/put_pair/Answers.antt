-- `print::put_pair` meets its contract.
-- Assumes nothing.
use mathlib.Core.Bool.{not}
use mathlib.Core.Path.{ap}
use mathlib.Core.List.{[], ◌∷◌, ◌++◌}
use Prim.Native.Nat.{◌+◌, ◌≤◌}
use native.Mathlib.Omega.{arith}
use Rattle.script_texts.specs.Answers.{digits_of, ending, range_text}
use Rattle.script_texts.proofs.Decimal.{at-most-twenty}
use Rattle.script_texts.proofs.Buffers.{no_room, with-room, put_three, length-pair}
use Rattle.script_texts.proofs.put_pair.Goals.{After-width, After-width-2}
use Rattle.script_texts.proofs.put_pair.Goals as goal

first_width : (c : After-width) → c.width.result ≤ 20
first_width c = omega (arith, c.width.ensures, at-most-twenty c.args.m (omega arith))

widths : (c : After-width-2) → c.width.result + c.width-2.result ≤ 40
widths c = omega (arith, first_width (goal.at.After-width-2 c).After-width, c.width-2.ensures, at-most-twenty c.args.n (omega arith))

pub overflow_add-word : goal.overflow_add-word
overflow_add-word c =
    omega (arith, first_width (goal.at.overflow_add-word c).After-width)

pub overflow_add-word-2 : goal.overflow_add-word-2
overflow_add-word-2 c =
    omega (arith, widths (goal.at.overflow_add-word-2 c).After-width-2)

pub overflow_add-word-3 : goal.overflow_add-word-3
overflow_add-word-3 c =
    omega (arith, widths (goal.at.overflow_add-word-3 c).After-width-2)

pub returns-then-not-has_room : goal.returns-then-not-has_room
returns-then-not-has_room c =
    no_room (c.args.word.now ++ range_text c.args.m c.args.n) c.args.out.now c.args.at _ _ c.has_room.ensures
    (omega (arith, length-pair c.args.word.now c.args.m c.args.n, c.width.ensures, c.width-2.ensures)) (ap not c.if-not-has_room.true)

pub returns : goal.returns
returns c =
    let room = with-room (c.args.word.now ++ range_text c.args.m c.args.n) c.args.out.now c.args.at _ _ c.has_room.ensures
    (omega (arith, length-pair c.args.word.now c.args.m c.args.n, c.width.ensures, c.width-2.ensures)) (ap not c.if-not-has_room.false) in
    put_three c.args.word.now (digits_of c.args.m) ((32 ∷ []) ++ ending c.args.n) c.args.out.now _ _ _ c.args.at _ _ _ room
    c.put_bytes-first.ensures c.put_number-gap.ensures c.put_word.ensures
