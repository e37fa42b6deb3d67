-- The doors' calls are those by value, so demand 3 holds of them. Assumes nothing.
use Prim.Native.Nat.{ℕ, ◌≤◌}
use mathlib.Core.Path.{◌≡◌, refl, sym, subst}
use Rattle.linked_lists.specs.Links.{none}
use Rattle.rules.specs.Rules.{empty, Call, Free, Allocate, Reserve, step}
use Rattle.rules_engine.specs.Engine.{Engine}
use Rattle.rules_engine.specs.Demand.{Demand}
use Rattle.pool_state.specs.State.{state_of}
use Rattle.pool_state.specs.Sound.{book_of, SoundState}
use Rattle.pool_state.specs.declared.MemoryAllocator.{MemoryAllocator}
use Rattle.calls.specs.Calls.{voucher_of}
use Rattle.core_serve.specs.Made.{made}
use Rattle.memory_allocator.specs.States.{states}
use Rattle.memory_allocator.proofs.Demand.{demand}
use Rattle.promises.specs.Lent.{door_of, lent, LentPromises}

module _ (n : ℕ) where
  same : (m : MemoryAllocator) (c : Call) → door_of n m c ≡ made n m c
  unfolding step
  same m (Free a z) = refl
  same m (Allocate z o) = refl
  same m (Reserve a z o) = refl

  same-engine : states n ≡ lent n
  same-engine = (λ i. record {
    State = MemoryAllocator;
    new = state_of n empty;
    answer = λ c m. voucher_of c (sym (same m c) i).answer;
    next = λ c m. (sym (same m c) i).state;
    book = book_of n;
    total = λ m. m.free_size;
    Sound = SoundState n;
  })

  pub lent-promises : n ≤ none → LentPromises n
  lent-promises small = record { same-call = same; books-close = subst Demand same-engine (demand n small) }
