-- A call's answer, by its number. Assumes nothing.
use mathlib.Core.Path.{◌≡◌, sym, subst}
use mathlib.Core.Logic.{◌≢◌}
use mathlib.Core.List.{List}
use Prim.Native.Nat.{ℕ, ◌^◌, ◌<◌, ◌≤◌}
use native.Mathlib.Omega.{arith}
use lib.ListN.{length}
use borrow.Author.Tests.{eq-eqb, ne_eqb}
use Rattle.std.specs.Prelude.{Ok, Err}
use Rattle.calls.specs.Calls.{Answer, number_of, address_of}
use Rattle.calls.specs.declared.Request.{Request}
use Rattle.calls.specs.declared.MemoryError.TheVariants.{NoEntry, InvalidEntry, NoMemory, InvalidRequest}
use Rattle.script_texts.specs.Answers.{ok_text, ok_at, no_text, Puts}
use Rattle.script_texts.proofs.Buffers.{at-most-48}
use Rattle.script_replies.specs.Replies.{line, moved_text, placed_text, reply_text, PutsWithin}

number_small : (k : Answer) → number_of k < 2 ^ 64
number_small (Ok a) = omega arith
number_small (Err NoEntry) = omega arith
number_small (Err InvalidEntry) = omega arith
number_small (Err NoMemory) = omega arith
number_small (Err InvalidRequest) = omega arith

-- a text within the line's length
pub puts-line : (t u out m : List ℕ) (at r : ℕ) → t ≡ u → length u ≤ line → Puts u out at m r → PutsWithin line t out at m r
puts-line t u out m at r e h p = record { short = rw e h; puts = rw e p }

module _ (k : Answer) (m : ℕ) (is : m ≡ number_of k) where
  pub moved-no : (out o : List ℕ) (at r : ℕ) → m ≢ 0 → Puts (no_text m) out at o r → PutsWithin line (moved_text k) out at o r
  unfolding moved_text
  moved-no out o at r h p = puts-line _ (no_text m) out o at r (rw (← is, ne_eqb m 0 h)) (at-most-48 m 0 (rw is (number_small k)) (omega arith)).3 p

  pub moved_ok : (out o : List ℕ) (at r : ℕ) → m ≡ 0 → Puts ok_text out at o r → PutsWithin line (moved_text k) out at o r
  unfolding moved_text
  moved_ok out o at r h p = puts-line _ ok_text out o at r (rw (← is, eq-eqb m 0 h)) (omega arith) p

  pub placed-no : (out o : List ℕ) (at r : ℕ) → m ≢ 0 → Puts (no_text m) out at o r → PutsWithin line (placed_text k) out at o r
  unfolding placed_text
  placed-no out o at r h p = puts-line _ (no_text m) out o at r (rw (← is, ne_eqb m 0 h)) (at-most-48 m 0 (rw is (number_small k)) (omega arith)).3 p

  pub placed-ok : (out o : List ℕ) (at r a : ℕ) → a < 2 ^ 64 → a ≡ address_of k → m ≡ 0 → Puts (ok_at a) out at o r → PutsWithin line (placed_text k) out at o r
  unfolding placed_text
  placed-ok out o at r a f e h p = puts-line _ (ok_at a) out o at r (rw (← is, ← e, eq-eqb m 0 h)) (at-most-48 a 0 f (omega arith)).2 p

-- the request is what the match found it to be
pub reply-is : (q q' : Request) (k : Answer) (out o : List ℕ) (at r : ℕ) → q ≡ q' → PutsWithin line (reply_text q' k) out at o r → PutsWithin line (reply_text q k) out at o r
reply-is q q' k out o at r e p = subst (λ (x : Request). PutsWithin line (reply_text x k) out at o r) (sym e) p
