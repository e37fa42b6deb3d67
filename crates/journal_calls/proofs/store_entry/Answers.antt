use native.Mathlib.Omega.{arith}
use mir.Syntax.{w64}
use mir.Facts.{to_z_pos}
use lib.ListN.{length-set}
use Rattle.journal_calls.proofs.Ways.{too_few, stored}
use Rattle.journal_calls.proofs.store_entry.Goals as goal

pub returns-then-words-lt-ENTRY_WORDS : goal.returns-then-words-lt-ENTRY_WORDS
returns-then-words-lt-ENTRY_WORDS c =
    too_few _ _ _ c.if-words-lt-ENTRY_WORDS.true

pub bounds-words-1 : goal.bounds-words-1
bounds-words-1 c =
    simp length-set (omega arith)

pub bounds-words-2 : goal.bounds-words-2
bounds-words-2 c =
    simp length-set (omega arith)

pub bounds-words-3 : goal.bounds-words-3
bounds-words-3 c =
    simp length-set (omega arith)

pub returns : goal.returns
returns c =
    let s = c in
    stored s.args.entry s.args.next s.args.words.now c.if-words-lt-ENTRY_WORDS.false _ c.words_of-call.ensures _ (to_z_pos w64 s.requires)
