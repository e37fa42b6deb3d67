-- The ladders of refusals, in the steps in which code takes them. n is the number of records, w what the allocator answered. Assumes nothing.
use mathlib.Core.Path.{◌≡◌, refl, sym, ap, ◌∙◌, subst}
use mathlib.Core.Logic.{◌≢◌}
use mathlib.Core.Bool.{Bool, true, false, not, cond, ◌&&◌}
use mathlib.Core.List.{List}
use Prim.Native.Nat.{ℕ, ◌+◌, ◌≤◌, ◌<◌}
use native.Mathlib.Omega.{arith}
use lib.Dec.{T, leb, eqb}
use borrow.Author.Tests.{eq-eqb, ne_eqb, le-leb, lt-leb}
use Rattle.std.specs.Prelude.{Ok, Err}
use Rattle.rules.specs.Rules as rules
use Rattle.rules.specs.Rules.{any, meets, Free, Allocate, Reserve, frees}
use Rattle.memory_allocator.specs.Names as allocator
use Rattle.memory_allocator.specs.States.{states}
use Rattle.calls.specs.Calls as calls
use Rattle.calls.specs.declared.MemoryError.{MemoryError}
use Rattle.calls.specs.declared.MemoryError.TheVariants.{NoEntry, InvalidEntry, NoMemory, InvalidRequest}
use Rattle.calls.specs.declared.Outcome as outcomes
use Rattle.pool_state.specs.declared.Address.{Address}
use Rattle.pool_state.specs.declared.MemoryAllocator.{MemoryAllocator}
use Rattle.holder_rules.specs.Register.{holders, known, blank, held, full, replace, free, enter, yours, hands, leave}
use Rattle.holder_rules.specs.Holders.{Holding, both, Answer, accepted, refused, refuse, unless_refused, unless_other, offer, give_back_lem, piece, take_as, take, asked, Call, Offer, By, step}
use Rattle.holder_rules.specs.Sound.{register_sound}
use Rattle.holder_rules.specs.States.{holding_of, with_register, is_sound_lem}
use Rattle.holder_rules.specs.declared.Entry.{Entry}
use Rattle.holder_rules.specs.declared.HolderAllocator.{HolderAllocator}
use Rattle.holder_serve.specs.Made.{HolderAnswer, judged, made}
use Rattle.holder_serve.specs.Made as outcome
use Rattle.holder_serve.specs.declared.HolderError.TheVariants.{Memory, NotYours, RegisterFull}
use Rattle.holder_serve.specs.declared.HolderOutcome.{HolderOutcome}

abbrev pub with : HolderAnswer → HolderAllocator → HolderOutcome
with k s = record { answer = k; state = s }

-- ---- the allocator's answers among the register's

pub follow-refused : (s : HolderAllocator) (k : calls.Answer) (e : MemoryError) (w : Answer MemoryAllocator) → k ≡ Err e
    → with (Err (Memory e)) s ≡ outcome.held (unless_refused (allocator.number_of k) (holding_of s) w)
unfolding unless_refused refuse
follow-refused s k e w q = rw q (go e)
  where
    go : (e : MemoryError) → with (Err (Memory e)) s ≡ outcome.held (unless_refused (allocator.number_of {A = Address} (Err e)) (holding_of s) w)
    go NoEntry = refl
    go InvalidEntry = refl
    go NoMemory = refl
    go InvalidRequest = refl

pub follow-accepted : (s : HolderAllocator) (k : calls.Answer) (a : Address) (m : Holding MemoryAllocator) → k ≡ Ok a
    → with (Ok a) (with_register m) ≡ outcome.held (unless_refused (allocator.number_of k) (holding_of s) (accepted (allocator.address_of k) m))
unfolding unless_refused refuse
follow-accepted s k a m q = rw q refl

-- ---- a free below the register: 4, then 5, then the allocator's own answer

module _ (n : ℕ) (s : HolderAllocator) (c : rules.Call) (w : outcomes.Outcome) (e : w ≡ allocator.made n s.memory c) (q : Bool) (r : List Entry) where
  abbrev next : Holding MemoryAllocator
  next = both ((states n).next c s.memory) r

  -- of what the allocator answered
  abbrev Told : (calls.Answer → HolderOutcome) → Type 0
  Told f = f w.answer ≡ outcome.held (unless_other ((states n).answer c s.memory) q (holding_of s) next)

  told : (f : calls.Answer → HolderOutcome) → ((k : calls.Answer) → w.answer ≡ k → f k ≡ outcome.held (unless_other (calls.voucher_of c k) q (holding_of s) next)) → Told f
  told f g = g w.answer refl ∙ ap (λ (v : outcomes.Outcome). outcome.held (unless_other (calls.voucher_of c v.answer) q (holding_of s) next)) e

  pub four : eqb (allocator.number_of w.answer) 4 ≡ true → with (Err (Memory InvalidRequest)) s ≡ outcome.held (unless_other ((states n).answer c s.memory) q (holding_of s) next)
  unfolding unless_other refuse
  four d = told (λ k. with (Err (Memory InvalidRequest)) s) (λ k a. rw (ap (λ (j : calls.Answer). eqb (allocator.number_of j) 4) (sym a) ∙ d))

  pub five : eqb (allocator.number_of w.answer) 4 ≡ false → q ≡ true → with (Err NotYours) s ≡ outcome.held (unless_other ((states n).answer c s.memory) q (holding_of s) next)
  unfolding unless_other refuse
  five d t = told (λ k. with (Err NotYours) s) (λ k a. rw (ap (λ (j : calls.Answer). eqb (allocator.number_of j) 4) (sym a) ∙ d, t))

  pub followed : eqb (allocator.number_of w.answer) 4 ≡ false → q ≡ false
      → outcome.held (unless_refused (allocator.number_of w.answer) (holding_of s) (accepted (allocator.address_of w.answer) (both w.state r)))
      ≡ outcome.held (unless_other ((states n).answer c s.memory) q (holding_of s) next)
  unfolding unless_other refuse
  followed d t = rw (t, sym (ap (λ (v : outcomes.Outcome). v.answer) e), d)
      (ap (λ (m : MemoryAllocator). outcome.held (unless_refused (allocator.number_of w.answer) (holding_of s) (accepted (allocator.address_of w.answer) (both m r)))) (ap (λ (v : outcomes.Outcome). v.state) e))

  -- with a register that is r
  pub followed-with : eqb (allocator.number_of w.answer) 4 ≡ false → q ≡ false → (r' : List Entry) → r' ≡ r
      → outcome.held (unless_refused (allocator.number_of w.answer) (holding_of s) (accepted (allocator.address_of w.answer) (both w.state r')))
      ≡ outcome.held (unless_other ((states n).answer c s.memory) q (holding_of s) next)
  followed-with d t r' x =
      ap (λ (l : List Entry). outcome.held (unless_refused (allocator.number_of w.answer) (holding_of s) (accepted (allocator.address_of w.answer) (both w.state l)))) x ∙ followed d t

-- ---- a take

module _ (n : ℕ) (s : HolderAllocator) (h : ℕ) (c : rules.Call) (w : outcomes.Outcome) (e : w ≡ allocator.made n s.memory c) where
  taken : (f : HolderOutcome) → f ≡ outcome.held (take_as (calls.voucher_of c w.answer) w.state h c (holding_of s)) → f ≡ outcome.held (take (states n) h c (holding_of s))
  unfolding take
  taken f g = g ∙ ap (λ (v : outcomes.Outcome). outcome.held (take_as (calls.voucher_of c v.answer) v.state h c (holding_of s))) e

  pub take-refused : (k : MemoryError) → w.answer ≡ Err k → with (Err (Memory k)) s ≡ outcome.held (take (states n) h c (holding_of s))
  unfolding take_as
  take-refused k d = taken _ (follow-refused s w.answer k _ d)

  module _ (d : allocator.number_of w.answer ≡ 0) where
    pub take-full : full s.register.entries ≡ true → with (Err RegisterFull) s ≡ outcome.held (take (states n) h c (holding_of s))
    unfolding take_as unless_refused refuse
    take-full t = taken _ (rw (d, t))

    pub take-entered : full s.register.entries ≡ false → (r : List Entry) → r ≡ enter (piece h c (allocator.address_of w.answer)) s.register.entries
        → outcome.held (unless_refused (allocator.number_of w.answer) (holding_of s) (accepted (allocator.address_of w.answer) (both w.state r))) ≡ outcome.held (take (states n) h c (holding_of s))
    unfolding take_as refuse
    take-entered t r q = taken _ (rw (t, q))

-- ---- a holder's number, and the state

pub no-holder : (n : ℕ) (s : HolderAllocator) (h : ℕ) (c : rules.Call) → known h ≡ false → with (Err (Memory InvalidRequest)) s ≡ outcome.held (step (states n) (By h c) (holding_of s))
unfolding step refuse
no-holder n s h c k = rw k

pub by-holder : (n : ℕ) (s : HolderAllocator) (h : ℕ) (c : rules.Call) → known h ≡ true → outcome.held (asked (states n) h c (holding_of s)) ≡ outcome.held (step (states n) (By h c) (holding_of s))
unfolding step refuse
by-holder n s h c k = rw k

-- a call that frees nothing takes
pub takes-asked : (n h : ℕ) (c : rules.Call) (k : Holding MemoryAllocator) → T (not (frees c)) → take (states n) h c k ≡ asked (states n) h c k
unfolding asked
takes-asked n h (Free s z) k t = absurd t
takes-asked n h (Allocate z o) k t = refl
takes-asked n h (Reserve s z o) k t = refl

pub sound-made : (n : ℕ) (s : HolderAllocator) (c : Call) → is_sound_lem n s ≡ true → outcome.held (step (states n) c (holding_of s)) ≡ made n s c
unfolding judged
sound-made n s c e = rw e

pub unsound-made : (n : ℕ) (s : HolderAllocator) (c : Call) → is_sound_lem n s ≡ false → with (Err (Memory InvalidEntry)) s ≡ made n s c
unfolding judged
unsound-made n s c e = rw e

-- the allocator in a sound state is sound
pub memory-sound : (n : ℕ) (s : HolderAllocator) → is_sound_lem n s ≡ true → allocator.is_sound_lem n s.memory ≡ true
unfolding is_sound_lem
memory-sound n s e = go (allocator.is_sound_lem n s.memory) (register_sound (allocator.book_of n s.memory).chain s.register.entries) e
  where
    go : (b d : Bool) → (b && d) ≡ true → b ≡ true
    go true d e = refl
    go false d e = e
