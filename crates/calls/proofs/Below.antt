-- Every address that a call answers is below 2^63. Assumes nothing.
use Prim.Native.Nat.{ℕ, ◌+◌, ◌<◌}
use mathlib.Core.Bool.{Bool}
use mathlib.Core.Option.{Option, none, some}
use lib.Dec.{lit<}
use native.Mathlib.Omega.{arith}
use Rattle.rules.specs.Rules.{top, Range, Book, down, up, Answer, refuse, reserve, reserve_from, Call, Free, Allocate, Reserve, step}
use Rattle.rules.specs.Sound.{Sound}
use Rattle.rules_laws.proofs.Lists.{if}
use Rattle.rules_laws.proofs.Outcomes.{Outcome, refusal, took, gave, outcome}

-- a refusal's address is 0
refuse-below : (q : Bool) (k : ℕ) (b : Book) (w : Answer) → w.address < top → (refuse q k b w).address < top
unfolding refuse
refuse-below q k b w h = if q (λ (v : Answer). v.address < top) (λ _. lit< tt) (λ _. h)

reserved-below : (n a t : ℕ) (b : Book) (m : Option Range) → (reserve_from n a t b m).address < top
unfolding reserve_from
reserved-below n a t b none = lit< tt
reserved-below n a t b (some r) = refuse-below _ _ b _ (lit< tt)

allocated-below : (n : ℕ) (b : Book) (z o : ℕ) (w : Answer) → Sound n b → Outcome n b (Allocate z o) w → w.address < top
allocated-below n b z o _ s (refusal k h m) = lit< tt
allocated-below n b z o _ s (took x r f h) = let g = s.good r h.member in let i = h.some_byte in let j = h.to in let k = g.below in omega arith
allocated-below n b z o _ s (gave f h) = lit< tt

freed-below : (n : ℕ) (b : Book) (a z : ℕ) (w : Answer) → Outcome n b (Free a z) w → w.address < top
freed-below n b a z _ (refusal k h m) = lit< tt
freed-below n b a z _ (took x r f h) = absurd f
freed-below n b a z _ (gave f h) = lit< tt

pub step-below : (n : ℕ) (b : Book) (c : Call) → Sound n b → (step n c b).address < top
unfolding step reserve
step-below n b (Free a z) s = freed-below n b a z _ (outcome n b (Free a z) s)
step-below n b (Allocate z o) s = allocated-below n b z o _ s (outcome n b (Allocate z o) s)
step-below n b (Reserve a z o) s =
    refuse-below _ _ b _ (refuse-below _ _ b _ (refuse-below _ _ b _ (refuse-below _ _ b _ (refuse-below _ _ b _ (reserved-below n (down o a) (up o (a + z)) b _)))))
