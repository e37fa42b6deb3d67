-- The promises of journals, each where it is proved. Assumes nothing.
use Prim.Native.Nat.{ℕ, ◌≤◌}
use mathlib.Core.List.{List, [], ◌∷◌}
use Rattle.linked_lists.specs.Links.{none}
use Rattle.rules.specs.Rules.{Book, empty}
use Rattle.calls.specs.declared.Request.{Request}
use Rattle.journal_blocks.specs.Journal.{AllFit}
use Rattle.journal_blocks.proofs.Rounds.{read-written}
use Rattle.journal_blocks.proofs.Back.{written_read}
use Rattle.journal_audit.specs.Audit.{replayed}
use Rattle.journal_audit.specs.Vouchers.{recorded}
use Rattle.journal_audit.proofs.Exact.{AllAsk, agrees-only, differs-first, agrees-all}
use Rattle.journal_audit.proofs.Closes.{journal-closes}
use Rattle.promises.specs.JournalPromises.{JournalPromises}

-- the numbers of what was recorded are those of the requests
asked-fit : (n : ℕ) (b : Book) (qs : List Request) → AllFit (recorded n b qs) → AllAsk qs
unfolding AllFit AllAsk recorded
asked-fit n b [] f = tt
asked-fit n b (q ∷ qs) f = (f.0.0, asked-fit n (replayed n b q).book qs f.1)

pub journal-promises : (n : ℕ) → n ≤ none → JournalPromises n
journal-promises n small = record {
  read-written = read-written;
  written_read = λ l bytes v e. (written_read l bytes v e).0;
  agrees-only = λ l t bytes e. (let a = agrees-only n small l bytes t e in (a.calls, a.bytes, a.final));
  agrees-all = λ qs f. agrees-all n small qs (asked-fit n empty qs f);
  differs-after = λ l i bytes e. (let d = differs-first n small l bytes i e in (d.calls, d.count, d.rest, d.bytes));
  journal-closes = λ l t bytes e. journal-closes n small l bytes t e;
}
