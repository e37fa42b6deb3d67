-- What is promised of journals and of their audit, sentence by sentence; `crates/promises/proofs/JournalPromises.antt` shows each. n is the number of records.
-- Assumes nothing.
use Rattle.std.specs.Prelude.{ℕ, true, false, List, ◌++◌, ◌≡◌, length}
use Rattle.rules.specs.Rules.{top, empty, total, last_covering, said, count}
use Rattle.calls.specs.declared.Request.{Request}
use Rattle.bytes_be.specs.Numbers.{Bytes}
use Rattle.journal_blocks.specs.Journal.{journal_bytes, versioned, contents, read_all, AllFit}
use Rattle.journal_blocks.specs.declared.Block.TheVariants.{End}
use Rattle.journal_blocks.specs.declared.Entry.{Entry}
use Rattle.journal_audit.specs.Audit.{audit_of}
use Rattle.journal_audit.specs.Vouchers.{vouchers_in, recorded, left_by}
use Rattle.journal_audit.specs.declared.Verdict.TheVariants.{Agrees, Differs}

pub record JournalPromises (n : ℕ) : Type 0 where
  -- what the writer writes, the reader reads, for any calls with any answers;
  pub read-written : (es : List Entry) → AllFit es → read_all (journal_bytes es) ≡ contents es End
  -- a journal without a fault is what the writer writes of what was read
  pub written_read : (l : List ℕ) → Bytes l → versioned l ≡ true → (read_all l).ending ≡ End → l ≡ journal_bytes (read_all l).entries
  -- what agrees is what a box writes that makes its calls by the rules from empty, and the total is what they leave;
  pub agrees-only : (l : List ℕ) (t : ℕ) → Bytes l → audit_of n l ≡ Agrees t → (qs : List Request) × (l ≡ journal_bytes (recorded n empty qs)) × (t ≡ total (left_by n empty qs))
  -- and all of it agrees
  pub agrees-all : (qs : List Request) → AllFit (recorded n empty qs) → audit_of n (journal_bytes (recorded n empty qs)) ≡ Agrees (total (left_by n empty qs))
  -- what differs at index i was written by the rules before it
  pub differs-after : (l : List ℕ) (i : ℕ) → Bytes l → audit_of n l ≡ Differs i → (qs : List Request) × (length qs ≡ i) × (rest : List ℕ) × (l ≡ journal_bytes (recorded n empty qs) ++ rest)
  -- of a journal that agrees, the total counts the bytes whose last accepted covering voucher in it is a free
  pub journal-closes : (l : List ℕ) (t : ℕ) → Bytes l → audit_of n l ≡ Agrees t → t ≡ count top (λ x. said false (last_covering x (vouchers_in l)))
