use mathlib.Core.Path.{sym}
use lib.ListN.{get_or-eq_default}
use borrow.Author.Tests.{le-leb, lt-leb}
use Rattle.mapper_arena.proofs.word_at.Goals as goal

pub returns-then-w-first : goal.returns-then-w-first
returns-then-w-first c =
    rw (lt-leb _ _ c.if-w-first.true)

pub returns-then-i-arena : goal.returns-then-i-arena
returns-then-i-arena c =
    rw (le-leb _ _ c.if-w-first.false)

pub returns : goal.returns
returns c =
    rw (le-leb _ _ c.if-w-first.false) (sym (get_or-eq_default c.args.arena.now 0 c.if-i-arena.false))
