-- `print::has_room` meets its contract.
-- Assumes nothing.
use mathlib.Core.Path.{sym}
use Prim.Native.Nat.{◌+◌}
use native.Mathlib.Omega.{arith}
use borrow.Author.Tests.{lt-leb}
use Rattle.script_texts.proofs.Buffers.{same-room}
use Rattle.script_texts.proofs.has_room.Goals as goal

pub returns-then-size-need : goal.returns-then-size-need
returns-then-size-need c =
    sym (lt-leb (c.args.at + c.args.need) c.args.size (omega arith))

pub returns : goal.returns
returns c =
    same-room c.args.size c.args.at c.args.need (omega arith)
