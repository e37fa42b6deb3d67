-- The calls by value obey the rules, so demand 3 holds of them: from the empty allocator of n records, after any list of calls. Assumes nothing.
use Prim.Native.Nat.{ℕ, ◌≤◌}
use mathlib.Core.Path.{◌≡◌, refl, sym, ap, ◌∙◌, subst}
use Rattle.linked_lists.specs.Links.{none}
use Rattle.rules_engine.specs.Demand.{Demand}
use Rattle.rules_engine.proofs.Obeys.{Obeys}
use Rattle.rules_engine.proofs.Demand as engine
use Rattle.pool_state.specs.State.{state_of}
use Rattle.pool_state.specs.Sound.{book_of, SoundState}
use Rattle.pool_state.specs.declared.MemoryAllocator.{MemoryAllocator}
use Rattle.pool_state.proofs.Book.{book-back}
use Rattle.calls.specs.Calls.{voucher_of}
use Rattle.core_serve.specs.Made.{made}
use Rattle.calls.specs.declared.Outcome.{Outcome}
use Rattle.memory_allocator.specs.States.{states}
use Rattle.memory_allocator.proofs.Steps.{sound-held, made_held, made-voucher}

module _ (n : ℕ) (small : n ≤ none) where
  pub obeys : Obeys n (states n)
  unfolding state_of
  obeys = record {
    Of = λ b s. s ≡ state_of n b;
    begins = refl;
    answers = λ b s c h o. ap (λ (t : MemoryAllocator). voucher_of c (made n t c).answer) o ∙ made-voucher n small b c h;
    leaves = λ b s c h o. ap (λ (t : MemoryAllocator). (made n t c).state) o ∙ ap (λ (r : Outcome). r.state) (made_held n small b c h);
    shows = λ b s h o. ap (book_of n) o ∙ book-back n small b h;
    counts = λ b s h o. ap (λ (t : MemoryAllocator). t.free_size) o;
    sound = λ b s h o. subst (SoundState n) (sym o) (sound-held n small b h);
  }

  pub demand : Demand (states n)
  demand = engine.demand obeys
