-- How a call ends. Assumes nothing.
use Prim.Native.Nat.{ℕ}
use mathlib.Core.Path.{◌≡◌, sym, subst}
use Rattle.rules.specs.Rules.{Book, Answer, refused}
use Rattle.pool_state.specs.State.{Holds}
use Rattle.pool_state.specs.declared.MemoryAllocator.{MemoryAllocator}
use Rattle.calls.specs.Calls.{number_of, address_of}
use Rattle.calls.specs.Answers.{Answers}
use Rattle.calls.specs.Calls as answer

-- a refusal leaves the state
pub refusal : (n k : ℕ) (b : Book) (w : Answer) (x : answer.Answer) (s : MemoryAllocator) → w ≡ refused k b → number_of x ≡ k → address_of x ≡ 0 → Holds n b s → Answers n w x s
refusal n k b w x s e p q h = rw e (record { number = p; address = q; book = h })

-- the rule of another call may answer the same
pub same_answer : (n : ℕ) (w w' : Answer) (x : answer.Answer) (s : MemoryAllocator) → w ≡ w' → Answers n w' x s → Answers n w x s
same_answer n w w' x s e h = subst (λ (v : Answer). Answers n v x s) (sym e) h
