-- The vouchers of a journal, read off its bytes alone. n is the number of records. Assumes nothing.
use Rattle.std.specs.Prelude.{ℕ, List, [], ◌∷◌, map}
use Rattle.rules.specs.Rules.{Book, Voucher}
use Rattle.calls.specs.Calls.{call_of, voucher_from}
use Rattle.calls.specs.declared.Request.{Request}
use Rattle.journal_blocks.specs.Bits.{signed_from}
use Rattle.journal_blocks.specs.Journal.{entry, read_all}
use Rattle.journal_blocks.specs.declared.Entry.{Entry}
use Rattle.journal_audit.specs.Audit.{answer_bits_lem, replayed}

abbrev pub voucher_in : Entry → Voucher
voucher_in e = voucher_from (call_of e.request) (signed_from e.answer)

abbrev pub vouchers_in : List ℕ → List Voucher
vouchers_in l = map voucher_in (read_all l).entries

-- what a box writes that makes these calls by the rules, from the book b on
unfoldable pub recorded : ℕ → Book → List Request → List Entry
recorded n b [] = []
recorded n b (q ∷ qs) = entry q (answer_bits_lem (replayed n b q)) ∷ recorded n (replayed n b q).book qs

-- the book that the calls leave
unfoldable pub left_by : ℕ → Book → List Request → Book
left_by n b [] = b
left_by n b (q ∷ qs) = left_by n (replayed n b q).book qs
