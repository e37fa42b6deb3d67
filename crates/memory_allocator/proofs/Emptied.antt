-- An allocator without a free byte is the new one, field by field, whatever was called before. Assumes nothing.
use Prim.Native.Nat.{ℕ}
use mathlib.Core.Path.{◌≡◌, sym, ap, ◌∙◌}
use Rattle.rules.specs.Rules.{empty}
use Rattle.rules_laws.proofs.Sums.{total-none}
use Rattle.pool_state.specs.State.{state_of}
use Rattle.pool_state.specs.Sound.{book_of, SoundState}
use Rattle.pool_state.specs.declared.MemoryAllocator.{MemoryAllocator}
use Rattle.pool_state.proofs.Book.{sound-holds}

-- The right side is what the contract of `new` says.
pub emptied-new : (n : ℕ) (s : MemoryAllocator) → SoundState n s → s.free_size ≡ 0 → s ≡ state_of n empty
emptied-new n s h e = sym h.state ∙ ap (state_of n) (total-none n (book_of n s) h.book (sym (sound-holds n s h).counts ∙ e))
