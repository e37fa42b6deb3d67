use mathlib.Core.Path.{sym}
use Prim.Native.Nat.{◌+◌}
use native.Mathlib.Omega.{arith}
use borrow.Author.Tests.{lt-leb}
use Rattle.pool_state.specs.Shown.{pool}
use Rattle.script_texts.proofs.Buffers.{same-room}
use Rattle.script_answers.specs.Script.{room}
use Rattle.script_answers.proofs.has_room.Goals as goal

pub returns-then-size-lt-ROOM : goal.returns-then-size-lt-ROOM
returns-then-size-lt-ROOM c =
    sym (lt-leb (c.args.at + room pool) c.args.size (omega arith))

pub returns : goal.returns
returns c =
    same-room c.args.size c.args.at (room pool) (omega arith)
