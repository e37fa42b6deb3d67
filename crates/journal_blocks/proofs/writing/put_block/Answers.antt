use mathlib.Core.Path.{sym}
use native.Mathlib.Omega.{arith}
use Rattle.script_texts.proofs.Buffers.{put-none, put-part}
use Rattle.journal_blocks.specs.Journal.{laid_out}
use Rattle.journal_blocks.proofs.Laid.{length-laid}
use Rattle.journal_blocks.proofs.writing.put_block.Goals as goal

pub returns-then-journal-size : goal.returns-then-journal-size
returns-then-journal-size c =
    put-none (laid_out c.args.kind c.args.words.now) c.args.journal.now c.args.at (omega (arith, length-laid c.args.kind c.args.words.now))

pub returns-then-journal-size-2 : goal.returns-then-journal-size-2
returns-then-journal-size-2 c =
    put-none (laid_out c.args.kind c.args.words.now) c.args.journal.now c.args.at (omega (arith, length-laid c.args.kind c.args.words.now))

pub returns : goal.returns
returns c =
    let size = length-laid c.args.kind c.args.words.now in
    put-part (laid_out c.args.kind c.args.words.now) c.args.journal.now _ c.args.at _ (sym size) (omega (arith, size, c.if-journal-size.false, c.if-journal-size-2.false))
    c.fill_block.ensures
