-- `print::put_word` meets its contract.
-- Assumes nothing.
use mathlib.Core.Bool.{not}
use mathlib.Core.Path.{ap}
use mathlib.Core.List.{◌++◌}
use native.Mathlib.Omega.{arith}
use Rattle.script_texts.specs.Answers.{ending}
use Rattle.script_texts.proofs.Decimal.{at-most-twenty}
use Rattle.script_texts.proofs.Buffers.{no_room, with-room, put_then, length-word}
use Rattle.script_texts.proofs.put_word.Goals as goal

pub overflow_add-word : goal.overflow_add-word
overflow_add-word c =
    omega (arith, c.width.ensures, at-most-twenty c.args.n (omega arith))

pub overflow_add-word-2 : goal.overflow_add-word-2
overflow_add-word-2 c =
    omega (arith, c.width.ensures, at-most-twenty c.args.n (omega arith))

pub returns-then-not-has_room : goal.returns-then-not-has_room
returns-then-not-has_room c =
    no_room (c.args.word.now ++ ending c.args.n) c.args.out.now c.args.at _ _ c.has_room.ensures
    (omega (arith, length-word c.args.word.now c.args.n, c.width.ensures)) (ap not c.if-not-has_room.true)

pub returns : goal.returns
returns c =
    let room = with-room (c.args.word.now ++ ending c.args.n) c.args.out.now c.args.at _ _ c.has_room.ensures
    (omega (arith, length-word c.args.word.now c.args.n, c.width.ensures)) (ap not c.if-not-has_room.false) in
    put_then c.args.word.now (ending c.args.n) c.args.out.now _ _ c.args.at _ _ room c.put_bytes-next.ensures c.put_ending.ensures
