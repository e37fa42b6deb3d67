-- What a call in place answers and leaves. Assumes nothing.
use Rattle.std.specs.Prelude.{ℕ, ◌≡◌}
use Rattle.rules.specs.Rules as rules
use Rattle.pool_state.specs.State.{Holds}
use Rattle.pool_state.specs.Lent.{OfStates, becomes, OfLent, turns}
use Rattle.pool_state.specs.declared.MemoryAllocator.{MemoryAllocator}
use Rattle.calls.specs.Calls.{Answer, number_of, address_of}

-- k and the state s are what the rules answer, w
pub record Answers (n : ℕ) (w : rules.Answer) (k : Answer) (s : MemoryAllocator) : Type 0 where
  pub number : number_of k ≡ w.number
  pub address : address_of k ≡ w.address
  pub book : Holds n w.book s

-- of every book that the fields of a state held, k is the rule's answer, and they hold the book that it leaves
abbrev pub Obeys : ℕ → (rules.Book → rules.Answer) → Answer → OfStates
Obeys n rule k = becomes (λ s s'. (b : rules.Book) → Holds n b s → Answers n (rule b) k s')

-- the same of ten that are lent one by one: of every book that the lent fields held, k is the rule's answer, and they hold the book that it leaves
abbrev pub Follows : ℕ → (rules.Book → rules.Answer) → Answer → OfLent
Follows n rule k = turns (λ s s'. (b : rules.Book) → Holds n b s → Answers n (rule b) k s')
