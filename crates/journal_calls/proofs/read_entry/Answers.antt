use native.Mathlib.Omega.{arith}
use mathlib.Core.Logic.{⊎_elim}
use mathlib.Core.Path.{◌≡◌, refl, sym}
use mir.Syntax.{w64}
use mir.Facts.{to_z-of_z}
use Rattle.journal_calls.proofs.Ways.{same_number, past_end, read-over, next-within}
use Rattle.calls.specs.Calls.{signed_of}
use Rattle.calls.specs.declared.MemoryError.TheVariants.{InvalidEntry}
use Rattle.std.specs.Prelude.{Err}
use Rattle.journal_blocks.specs.declared.Block.{Block}
use Rattle.journal_calls.specs.Calls.{left, block_over, read_over}
use Rattle.journal_calls.proofs.read_entry.Goals.{In-Truncated}
use Rattle.journal_calls.proofs.read_entry.Goals as goal

pub returns-then-journal-at : goal.returns-then-journal-at
returns-then-journal-at c =
    past_end _ _ _ c.if-journal-at.true

pub store_entry-requires : goal.store_entry-requires
store_entry-requires c =
    omega (arith, next-within c.args.journal.now c.args.at c.args.words.now c.if-journal-at.false _ c.read_block.ensures _ _ c.in-Call.is, c.well_formed)

pub returns-in-Call : goal.returns-in-Call
returns-in-Call c =
    same_number _ _ _ _ (to_z-of_z {w = w64} (record { sfits = c.store_entry.type_inv }))
    (read-over c.args.journal.now c.args.at c.args.words.now c.if-journal-at.false _ c.read_block.ensures _ c.in-Call.is _ c.store_entry.ensures)

pub returns-in-End : goal.returns-in-End
returns-in-End c =
    read-over c.args.journal.now c.args.at c.args.words.now c.if-journal-at.false _ c.read_block.ensures _ c.in-End.is _ refl

-- a block that is none
no_block : (c : In-Truncated) (w : Block) → c.read_block.result ≡ w → block_over w c.args.words.now ≡ left (signed_of (Err InvalidEntry)) c.args.words.now
    → left (signed_of (Err InvalidEntry)) c.args.words.now ≡ read_over c.args.journal.now c.args.at c.args.words.now
no_block c w is over = read-over c.args.journal.now c.args.at c.args.words.now c.if-journal-at.false _ c.read_block.ensures w is _ (sym over)

pub returns-in-Truncated : goal.returns-in-Truncated
returns-in-Truncated c =
    ⊎_elim (λ e. no_block c _ e refl) (⊎_elim (λ e. no_block c _ e refl) (λ e. no_block c _ e refl)) c.in-Truncated.is
