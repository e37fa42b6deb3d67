-- A text that is written into a buffer ends in it. Assumes nothing.
use Rattle.std.proofs.Common.{◌≡◌, ℕ, ◌+◌, ◌≤◌, Bool, true, false, cond, List, ◌++◌, refl, ap, ◌∙◌, length, take, drop, length-append, length-take, length-drop, arith}
use borrow.Author.Tests.{leb-true}
use Rattle.script_texts.specs.Answers.{fits, written, past, Puts}

pub within : (t l : List ℕ) (at : ℕ) (m : List ℕ) (r : ℕ) → at ≤ length l → Puts t l at m r → r ≤ length m
unfolding written past
within t l at m r h p = go (fits t l at) refl p.bytes p.next
  where
    go : (q : Bool) → fits t l at ≡ q → m ≡ cond q (take at l ++ (t ++ drop (at + length t) l)) l → r ≡ cond q (at + length t) at → r ≤ length m
    go true f b n =
        let room : at + length t ≤ length l = leb-true _ _ f in
        let size : length (take at l ++ (t ++ drop (at + length t) l)) ≡ length l = simp (length-append, length-take, length-drop) (omega arith) in
        let all = ap length b ∙ size in
        omega arith
    go false f b n = let all = ap length b in omega arith
