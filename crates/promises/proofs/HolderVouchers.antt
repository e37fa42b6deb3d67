-- The voucher of an answer by value is the rules' own: it has the number and the address of the rules' answer. n is the number of records. Assumes nothing.
use Prim.Native.Nat.{ℕ, ◌+◌}
use mathlib.Core.Bool.{Bool, not}
use mathlib.Core.Path.{◌≡◌, refl}
use lib.Dec.{eqb}
use Rattle.std.specs.Prelude.{Ok, Err}
use Rattle.rules.specs.Rules as rules
use Rattle.rules.specs.Rules.{any, meets, Free, Allocate, Reserve}
use Rattle.rules_laws.proofs.Lists.{if}
use Rattle.pool_state.specs.declared.MemoryAllocator.{MemoryAllocator}
use Rattle.calls.specs.Calls as calls
use Rattle.calls.specs.declared.MemoryError.TheVariants.{NoEntry, InvalidEntry, NoMemory, InvalidRequest}
use Rattle.core_serve.specs.Made as allocator
use Rattle.memory_allocator.specs.States.{states}
use Rattle.holder_rules.specs.Register.{known, held, full, yours}
use Rattle.holder_rules.specs.Holders.{Holding, Answer, accepted, refused, refuse, unless_refused, unless_other, offer, give_back_lem, take_as, take, asked, Call, Offer, By, step, voucher}
use Rattle.holder_serve.specs.Made.{voucher_of, answer_of}

abbrev Told : Call → Answer MemoryAllocator → Type 0
Told c w = voucher_of c (answer_of w.number w.address) ≡ voucher c w

taken : (c : Call) (x : ℕ) (k : Holding MemoryAllocator) → Told c (accepted x k)
taken c x k = refl

line : (c : Call) (q : Bool) (j : ℕ) (k : Holding MemoryAllocator) (w : Answer MemoryAllocator) → Told c (refused j k) → Told c w → Told c (refuse q j k w)
unfolding refuse
line c q j k w a b = if q (λ (v : Answer MemoryAllocator). Told c v) (λ _. a) (λ _. b)

-- the allocator's refusal, or the lines below it
followed : (c : Call) (a : calls.Answer) (k : Holding MemoryAllocator) (w : Answer MemoryAllocator) → Told c w → Told c (unless_refused (calls.number_of a) k w)
unfolding unless_refused refuse
followed c (Ok x) k w h = h
followed c (Err NoEntry) k w h = refl
followed c (Err InvalidEntry) k w h = refl
followed c (Err NoMemory) k w h = refl
followed c (Err InvalidRequest) k w h = refl

module _ (n : ℕ) (k : Holding MemoryAllocator) where
  -- what the allocator answers
  abbrev answer : rules.Call → calls.Answer
  answer c = (allocator.made n k.memory c).answer

  other-told : (c : Call) (d : rules.Call) (q : Bool) (k' : Holding MemoryAllocator) → Told c (unless_other ((states n).answer d k.memory) q k k')
  unfolding unless_other
  other-told c d q k' = line c (eqb (calls.number_of (answer d)) 4) 4 k _ refl (line c q 5 k _ refl (followed c (answer d) k _ (taken c (calls.address_of (answer d)) k')))

  take-told : (h : ℕ) (d : rules.Call) → Told (By h d) (take (states n) h d k)
  unfolding take take_as
  take-told h d = followed (By h d) (answer d) k _ (line (By h d) (full k.register) 6 k _ refl (taken (By h d) (calls.address_of (answer d)) k))

  asked-told : (h : ℕ) (d : rules.Call) → Told (By h d) (asked (states n) h d k)
  unfolding asked give_back_lem
  asked-told h (Free s z) = other-told (By h (Free s z)) (Free s z) (not (any (yours h s z) (held k.register))) _
  asked-told h (Allocate z o) = take-told h (Allocate z o)
  asked-told h (Reserve s z o) = take-told h (Reserve s z o)

  pub told : (c : Call) → Told c (step (states n) c k)
  unfolding step offer
  told (Offer s z) = other-told (Offer s z) (Free s z) (any (meets s (s + z)) (held k.register)) _
  told (By h d) = line (By h d) (not (known h)) 4 k _ refl (asked-told h d)
