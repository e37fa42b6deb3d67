use mathlib.Core.Path.{sym}
use lib.Seq.{set_out}
use borrow.Author.Tests.{le-leb, lt-leb}
use Rattle.mapper_arena.proofs.put_word.Goals as goal

pub returns-then-w-first : goal.returns-then-w-first
returns-then-w-first c =
    rw (lt-leb _ _ c.if-w-first.true)

pub returns-then-i-arena : goal.returns-then-i-arena
returns-then-i-arena c =
    rw (le-leb _ _ c.if-w-first.false)

pub returns-else-i-arena : goal.returns-else-i-arena
returns-else-i-arena c =
    rw (le-leb _ _ c.if-w-first.false) (sym (set_out _ _ _ c.if-i-arena.false))
