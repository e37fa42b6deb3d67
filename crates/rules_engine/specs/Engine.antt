-- An engine is whatever answers the calls: its states, what a call answers and leaves, and what can be read off a state.
-- Lists of calls, and their vouchers, are the same for every engine. Assumes nothing.
use Rattle.std.specs.Prelude.{ℕ, Bool, List, [], ◌∷◌}
use Rattle.rules.specs.Rules.{Book, empty, total, free_at, Call, Voucher, voucher, step}
use Rattle.rules.specs.Sound as books

pub record Engine : Type 1 where
  pub State : Type 0
  pub new : State
  -- the voucher of a call, and the state that it leaves
  pub answer : Call → State → Voucher
  pub next : Call → State → State
  -- the free ranges, the stored total, and whether the state is sound
  pub book : State → Book
  pub total : State → ℕ
  pub Sound : State → Type 0

-- the state that a list of calls leaves
unfoldable pub after : (e : Engine) → e.State → List Call → e.State
after e s [] = s
after e s (c ∷ cs) = after e (e.next c s) cs

-- their vouchers, oldest first
unfoldable pub vouchers : (e : Engine) → e.State → List Call → List Voucher
vouchers e s [] = []
vouchers e s (c ∷ cs) = e.answer c s ∷ vouchers e (e.next c s) cs

-- the byte x is free
abbrev pub free_in_lem : (e : Engine) → e.State → ℕ → Bool
free_in_lem e s x = free_at (e.book s) x

-- the rules themselves, with n records
abbrev pub rules : ℕ → Engine
rules n = record {
  State = Book;
  new = empty;
  answer = λ c b. voucher c (step n c b);
  next = λ c b. (step n c b).book;
  book = λ b. b;
  total = total;
  Sound = books.Sound n;
}
