-- What is promised of the register by value. The allocator by value is the ranges of an account, whose sound states are known to be those of sound books. n is the number of records.
-- Assumes nothing.
use Prim.Native.Nat.{ℕ, ◌+◌, ◌≤◌}
use mathlib.Core.Bool.{Bool, true, ◌||◌, ◌&&◌}
use mathlib.Core.List.{List}
use mathlib.Core.Path.{◌≡◌, sym, ap, ◌∙◌}
use native.Mathlib.Omega.{arith}
use lib.Dec.{eqb}
use borrow.Author.Tests.{le-leb}
use Rattle.linked_lists.specs.Links.{none}
use Rattle.rules.specs.Rules as rules
use Rattle.rules.specs.Rules.{sum}
use Rattle.rules_lowest.specs.Lowest.{never, low_sound}
use Rattle.pool_state.specs.declared.MemoryAllocator.{MemoryAllocator}
use Rattle.calls.specs.Calls.{voucher_of}
use Rattle.memory_allocator.specs.States.{states}
use Rattle.memory_allocator.proofs.Demand as allocator
use Rattle.account_state.specs.Account.{account, SoundAccount}
use Rattle.account_state.specs.declared.Account.{Account}
use Rattle.account_state.proofs.Exact.{sound-passes}
use Rattle.account_calls.specs.Engine.{accounts}
use Rattle.account_calls.proofs.Refusals.{ranges-answer, ranges-left}
use Rattle.account_calls.proofs.Demand.{obeys, stands}
use Rattle.holder_rules.specs.Register.{entries, held}
use Rattle.holder_rules.specs.Holders.{Holding, both, Call, step, Voucher, run, trail, offered}
use Rattle.holder_laws.specs.Demand.{SoundHolding, Grows}
use Rattle.holder_laws.proofs.Demand as laws
use Rattle.holder_laws.proofs.Outcomes.{Kept}
use Rattle.holder_laws.proofs.Keeps.{step_keeps}
use Rattle.holder_laws.proofs.Alike.{run-alike, trail-alike}
use Rattle.promises.specs.Holders.{HolderPromises}

-- the ranges alone of an account
abbrev pub ranges_of : Account → MemoryAllocator
ranges_of a = a.ranges

module _ (n : ℕ) (small : n ≤ none) where
  -- a call on the ranges of a sound account answers what it answers on the account, and leaves its ranges
  pub ranges-answers : (a : Account) → SoundAccount n a → (c : rules.Call) → (states n).answer c a.ranges ≡ (accounts n).answer c a
  ranges-answers a h c = ap (voucher_of c) (sym (ranges-answer n a (rules.step n c) (sound-passes n small a h)))

  pub ranges-leaves : (a : Account) → SoundAccount n a → (c : rules.Call) → (states n).next c a.ranges ≡ ((accounts n).next c a).ranges
  ranges-leaves a h c = sym (ranges-left n a (rules.step n c) (sound-passes n small a h))

  -- the account of a kept holding is sound
  pub kept-account : (k : Holding Account) → Kept (obeys n small) k → SoundAccount n k.memory
  kept-account k κ = (obeys n small).sound κ.book k.memory κ.good κ.of

  kept-answers : (k : Holding Account) → Kept (obeys n small) k → (c : rules.Call) → (states n).answer c k.memory.ranges ≡ (accounts n).answer c k.memory
  kept-answers k κ = ranges-answers k.memory (kept-account k κ)

  kept_leaves : (k : Holding Account) → Kept (obeys n small) k → (c : rules.Call) → (states n).next c k.memory.ranges ≡ ((accounts n).next c k.memory).ranges
  kept_leaves k κ = ranges-leaves k.memory (kept-account k κ)

  module _ (k : Holding MemoryAllocator) (h : SoundHolding (states n) entries k) (cs : List Call) where
    -- with its total for the figure
    abbrev j : Holding Account
    j = both (account k.memory k.memory.free_size) k.register

    own-figure : SoundAccount n j.memory
    own-figure =
        let t = k.memory.free_size in
        record { ranges = h.0; low = ap (λ (b : Bool). b || (eqb t 0 && eqb t never)) (le-leb t t (omega arith)) }

    kept : Kept (obeys n small) j
    kept = laws.kept_of (obeys n small) j (stands n small j.memory own-figure) h.1

    grown : (run (states n) k cs).memory.free_size + sum (held (run (states n) k cs).register) ≡ (k.memory.free_size + sum (held k.register)) + offered (trail (states n) k cs)
    grown =
        ap (λ (i : Holding MemoryAllocator). i.memory.free_size + sum (held i.register)) (run-alike (accounts n) (states n) ranges_of (Kept (obeys n small)) (step_keeps (obeys n small)) kept-answers kept_leaves j kept cs)
        ∙ laws.grows-on (obeys n small) entries (stands n small) j (own-figure, h.1) cs
        ∙ ap (λ (vs : List Voucher). (k.memory.free_size + sum (held k.register)) + offered vs) (sym (trail-alike (accounts n) (states n) ranges_of (Kept (obeys n small)) (step_keeps (obeys n small)) kept-answers kept_leaves j kept cs))

  pub holder-promises : HolderPromises n
  holder-promises = record { books-close = laws.demand (allocator.obeys n small) entries; grows = grown }
