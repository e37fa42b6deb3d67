-- What each call of a journal returns, and every byte or word that it leaves in what is lent. Assumes nothing.
use Rattle.std.specs.Prelude.{ℕ, ◌+◌, cond, List, [], ◌∷◌, ◌++◌, ◌≡◌, leb, ℤ, pos, length, drop, Err, Some, None}
use Rattle.script_texts.specs.Answers.{fits, written}
use Rattle.calls.specs.Calls.{signed_of}
use Rattle.calls.specs.declared.MemoryError.TheVariants.{InvalidEntry, InvalidRequest}
use Rattle.batch.specs.InWords.{words_of_lem, Asked}
use Rattle.journal_blocks.specs.Journal.{entry, block_bytes, block_at}
use Rattle.journal_blocks.specs.declared.Entry.{Entry}
use Rattle.journal_blocks.specs.declared.Block.{Block}
use Rattle.journal_blocks.specs.declared.Block.TheVariants as block
use Rattle.journal_audit.specs.declared.Verdict.{Verdict}
use Rattle.journal_audit.specs.declared.Verdict.TheVariants.{Agrees, Differs, Truncated, UnknownCall, WrongLength, NoVersion}

-- what a call returns, and what it leaves
pub record Left : Type 0 where
  pub number : ℤ
  pub numbers : List ℕ

abbrev pub left : ℤ → List ℕ → Left
left r l = record { number = r; numbers = l }

-- the bytes t at a place of l, and the place after them; -4, and nothing written, where they do not fit
unfoldable pub put_over : List ℕ → List ℕ → ℕ → Left
put_over t l at = left (cond (fits t l at) (pos (at + length t)) (signed_of (Err InvalidRequest))) (written t l at)

-- the block of a call and the bits of its answer; a kind that there is not is -4
abbrev pub write_over : Asked → ℕ → List ℕ → ℕ → Left
write_over (Some q) i l at = put_over (block_bytes (entry q i)) l at
write_over None i l at = left (signed_of (Err InvalidRequest)) l

-- ---- reading

-- the five words of a call and its answer
abbrev pub entry_words : Entry → List ℕ
entry_words e = words_of_lem e.request ++ (e.answer ∷ [])

-- they go over the first five of the old ones, and the place after the block is returned; -4 where there are fewer
unfoldable pub stored_over : Entry → ℕ → List ℕ → Left
stored_over e next old = cond (leb 5 (length old)) (left (pos next) (entry_words e ++ drop 5 old)) (left (signed_of (Err InvalidRequest)) old)

-- at the end 0 is returned, and -2 where no whole good block stands
abbrev pub block_over : Block → List ℕ → Left
block_over (block.Call e next) old = stored_over e next old
block_over block.End old = left (pos 0) old
block_over block.Truncated old = left (signed_of (Err InvalidEntry)) old
block_over block.UnknownCall old = left (signed_of (Err InvalidEntry)) old
block_over block.WrongLength old = left (signed_of (Err InvalidEntry)) old

-- a place past the end is -4
unfoldable pub read_over : List ℕ → ℕ → List ℕ → Left
read_over l at old = cond (leb at (length l)) (block_over (block_at l at) old) (left (signed_of (Err InvalidRequest)) old)

-- ---- the audit: which of the reports, and the figure beside it

abbrev pub report_number : Verdict → ℤ
report_number (Agrees t) = pos 0
report_number (Differs i) = pos 1
report_number (Truncated i) = pos 2
report_number (UnknownCall i) = pos 3
report_number (WrongLength i) = pos 4
report_number NoVersion = signed_of (Err InvalidEntry)

-- the final total, or the index; without a version the old figure stays
abbrev pub report_figure : Verdict → ℕ → ℕ
report_figure (Agrees t) old = t
report_figure (Differs i) old = i
report_figure (Truncated i) old = i
report_figure (UnknownCall i) old = i
report_figure (WrongLength i) old = i
report_figure NoVersion old = old

-- r is returned, and the figure is now f
pub record Reports (v : Verdict) (old : ℕ) (r : ℤ) (f : ℕ) : Type 0 where
  pub number : r ≡ report_number v
  pub figure : f ≡ report_figure v old
