-- The promises of the base, each where it is proved. Assumes nothing.
use Prim.Native.Nat.{ℕ, ◌≤◌}
use Rattle.linked_lists.specs.Links.{none}
use Rattle.rules_laws.proofs.Facts as facts
use Rattle.rules_laws.proofs.Outcomes.{down_le, le_up}
use Rattle.pool_state.proofs.Book as book
use Rattle.check_meaning.proofs.Exact as check
use Rattle.memory_allocator.proofs.Refusals.{refused-same}
use Rattle.memory_allocator.proofs.Demand.{demand}
use Rattle.promises.specs.Base.{Words, Checked, Called}

pub words : Words
words = record {
  list-numbers = facts.list-numbers;
  list-fits = facts.list-number-fits;
  list-least = facts.list-number-least;
  down-near = λ o x. (down_le o x, facts.down-near o x);
  up-near = λ o x. (le_up o x, facts.up-near o x);
  up_top = facts.up_top;
  widened = facts.widened;
  full-uses = facts.full-uses;
}

module _ (n : ℕ) (small : n ≤ none) where
  pub checked : Checked n
  checked = record {
    paragraph = check.paragraph n small;
    exact = λ s z. (check.passes-sound n small s z, check.sound-passes n small s);
    book-passes = check.state-passes n small;
    book-back = book.book-back n small;
  }

  pub called : Called n
  called = record { refused-same = refused-same n small; books-close = demand n small }
