-- What is to be shown of an engine, one call at a time: that it obeys the rules, with n records. Assumes nothing.
use Prim.Native.Nat.{ℕ}
use mathlib.Core.Path.{◌≡◌}
use Rattle.rules.specs.Rules as books
use Rattle.rules.specs.Rules.{Book, empty, Call, voucher, step}
use Rattle.rules.specs.Sound.{Sound}
use Rattle.rules_engine.specs.Engine.{Engine}

-- each of its states is one of a sound book, and so on along any call
pub record Obeys (n : ℕ) (e : Engine) : Type 1 where
  pub Of : Book → e.State → Type 0
  pub begins : Of empty e.new
  pub answers : (b : Book) (s : e.State) (c : Call) → Sound n b → Of b s → e.answer c s ≡ voucher c (step n c b)
  pub leaves : (b : Book) (s : e.State) (c : Call) → Sound n b → Of b s → Of (step n c b).book (e.next c s)
  pub shows : (b : Book) (s : e.State) → Sound n b → Of b s → e.book s ≡ b
  pub counts : (b : Book) (s : e.State) → Sound n b → Of b s → e.total s ≡ books.total b
  pub sound : (b : Book) (s : e.State) → Sound n b → Of b s → e.Sound s
