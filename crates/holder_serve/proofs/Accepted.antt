-- The piece of a take that the allocator accepted can be worked out in 64 bits. n is the number of records. Assumes nothing.
use mathlib.Core.Path.{◌≡◌, refl, sym, ap, ◌∙◌, subst}
use mathlib.Core.Logic.{◌≢◌, inl, inr}
use mathlib.Core.Bool.{Bool, true, not, cond}
use Prim.Native.Nat.{ℕ, zero, suc, ◌+◌, ◌-◌, ◌*◌, ◌/◌, ◌^◌, ◌≤◌, ◌<◌}
use native.Mathlib.Nat.{suc-mul, zero-mul}
use native.Mathlib.Omega.{arith}
use lib.Dec.{T, leb, leb→le, nleb→lt, lit≤}
use lib.Pow.{pow-lt}
use Rattle.linked_lists.specs.Links.{none}
use Rattle.rules.specs.Rules as rules
use Rattle.rules.specs.Rules.{top, Book, up, Free, Allocate, Reserve, frees, from, past, step}
use Rattle.rules.specs.Sound.{Sound}
use Rattle.rules_laws.proofs.Lists.{T-no, T-or-not}
use Rattle.rules_laws.proofs.Kept.{Takes}
use Rattle.rules_laws.proofs.Outcomes.{Outcome, refusal, took, gave, outcome, le_up}
use Rattle.memory_allocator.specs.Names.{book_of, is_sound_lem, made, number_of, address_of}
use Rattle.core_serve.specs.Made as serving
use Rattle.check_meaning.specs.Paragraph.{Sized}
use Rattle.check_meaning.proofs.Exact.{passes-sound}
use Rattle.calls.specs.Calls.{voucher_of}
use Rattle.calls.specs.declared.Outcome as outcomes
use Rattle.calls.proofs.Numbers.{numbered}
use Rattle.pool_state.specs.declared.MemoryAllocator.{MemoryAllocator}
use Rattle.holder_serve.specs.Pieces.{order_of, Moves}

some-times : (q m : ℕ) → 0 < q * m → m ≤ q * m
some-times zero m h = absurd (let e = zero-mul m in let v : ⊥ = omega arith in v)
some-times (suc q) m h = let e = suc-mul q m in omega arith

-- a multiple of 2^o that is not above 2^63
order-fits : (o x : ℕ) → 0 < up o x → up o x ≤ top → o ≤ 63
unfolding up
order-fits o x p l = elim (T-or-not (leb o 63)) [
  | inl t ↦ leb→le o 63 t
  | inr t ↦ let g = nleb→lt o 63 t in let w = pow-lt {i = 63} {j = o} g in let v = some-times ((x + (2 ^ o - 1)) / 2 ^ o) (2 ^ o) p in absurd (let z : ⊥ = omega arith in z)
]

-- a reserve that moves bytes can be widened
pub reserve-fits : (s z o x : ℕ) → Moves (Reserve s z o) x → (s + z ≤ top) × (o ≤ 63)
reserve-fits s z o x m = (let l = m.below in omega (arith, le_up o (s + z)), m.order)

piece-moves : (n : ℕ) (b : Book) (r : rules.Range) (c : rules.Call) (x : ℕ) → Sound n b → Takes n b r (from c x) (past c x) → Moves c x
piece-moves n b r (Free s z) x g t = record { some_byte = t.some_byte; below = (let u = t.to in let v = (g.good r t.member).below in omega arith); order = omega arith }
piece-moves n b r (Allocate z o) x g t = record { some_byte = t.some_byte; below = (let u = t.to in let v = (g.good r t.member).below in omega arith); order = omega arith }
piece-moves n b r (Reserve s z o) x g t =
    let l : up o (s + z) ≤ top = (let u = t.to in let v = (g.good r t.member).below in omega arith) in
    record { some_byte = t.some_byte; below = l; order = order-fits o (s + z) (let u = t.some_byte in omega arith) l }

outcome-moves : (n : ℕ) (b : Book) (c : rules.Call) (w : rules.Answer) → Sound n b → Outcome n b c w → T (not (frees c)) → w.number ≡ 0 → Moves c w.address
outcome-moves n b c _ g (refusal k h m) t e = absurd (h e)
outcome-moves n b c _ g (took x r f h) t e = piece-moves n b r c x g h
outcome-moves n b c _ g (gave f h) t e = absurd (T-no (frees c) t f)

pub accepted-moves : (n : ℕ) → n ≤ none → (s : MemoryAllocator) → Sized n s → is_sound_lem n s ≡ true → (c : rules.Call) → T (not (frees c)) → number_of (made n s c).answer ≡ 0 → Moves c (address_of (made n s c).answer)
unfolding serving.judged
accepted-moves n small s z e c t d =
    let p = passes-sound n small s z e in
    let w = step n c (book_of n s) in
    let o = outcome n (book_of n s) c p.book in
    let m : made n s c ≡ serving.held n w = rw e in
    let v = numbered n (book_of n s) c w o in
    let number : number_of (made n s c).answer ≡ w.number = ap (λ (k : outcomes.Outcome). number_of k.answer) m ∙ ap (λ (u : rules.Voucher). u.number) v in
    let address : address_of (made n s c).answer ≡ w.address = ap (λ (k : outcomes.Outcome). address_of k.answer) m ∙ ap (λ (u : rules.Voucher). u.address) v in
    subst (Moves c) (sym address) (outcome-moves n (book_of n s) c w p.book o t (sym number ∙ d))

-- the same of an outcome that is what the allocator made
pub accepted-told : (n : ℕ) → n ≤ none → (s : MemoryAllocator) → Sized n s → is_sound_lem n s ≡ true → (c : rules.Call) → T (not (frees c)) → (w : outcomes.Outcome) → w ≡ made n s c
    → number_of w.answer ≡ 0 → Moves c (address_of w.answer)
accepted-told n small s z e c t w q = subst (λ (v : outcomes.Outcome). number_of v.answer ≡ 0 → Moves c (address_of v.answer)) (sym q) (accepted-moves n small s z e c t)
