-- The check is exact, and a sound state is one of document 01's paragraph.
use Prim.Native.Nat.{ℕ, ◌≤◌}
use mathlib.Core.Bool.{true}
use mathlib.Core.Logic.{◌↔◌}
use mathlib.Core.Path.{◌≡◌}
use Rattle.linked_lists.specs.Links.{none}
use Rattle.rules.specs.Rules.{Book}
use Rattle.rules.specs.Sound.{Sound}
use Rattle.pool_state.specs.State.{state_of}
use Rattle.pool_state.specs.Sound.{book_of, SoundState}
use Rattle.pool_state.specs.declared.MemoryAllocator.{MemoryAllocator}
use Rattle.pool_state.proofs.States.{state-holds}
use Rattle.pool_state.proofs.Book.{sound-holds, holds-sound}
use Rattle.check_state.specs.IsSound.{is_sound_lem}
use Rattle.check_meaning.specs.Paragraph.{Sized, Paragraph}
use Rattle.check_meaning.proofs.Passes.{passes}
use Rattle.check_meaning.proofs.Finds.{finds}
use Rattle.check_meaning.proofs.Holding.{book, holding}
use Rattle.check_meaning.proofs.Held.{held}

module _ (n : ℕ) (small : n ≤ none) (s : MemoryAllocator) where
  pub paragraph : SoundState n s ↔ Paragraph n s
  paragraph = (
    λ h. held n small (book_of n s) s (sound-holds n s h),
    λ p. holds-sound n small (book n small s p) s (holding n small s p),
  )

  pub sound-sized : SoundState n s → Sized n s
  sound-sized h = (paragraph.0 h).sized

  pub sound-passes : SoundState n s → is_sound_lem n s ≡ true
  sound-passes h = passes n small s (paragraph.0 h)

  pub passes-sound : Sized n s → is_sound_lem n s ≡ true → SoundState n s
  passes-sound z h = paragraph.1 (finds n small s z h)

-- Of a state whose arrays have the places that their types say, the check says yes exactly where it is sound.
pub sound-exact : (n : ℕ) → n ≤ none → (s : MemoryAllocator) → Sized n s → (is_sound_lem n s ≡ true → SoundState n s) × (SoundState n s → is_sound_lem n s ≡ true)
sound-exact n small s z = (passes-sound n small s z, sound-passes n small s)

-- It says yes to the state of every sound book.
pub state-passes : (n : ℕ) → n ≤ none → (b : Book) → Sound n b → is_sound_lem n (state_of n b) ≡ true
state-passes n small b h = sound-passes n small (state_of n b) (holds-sound n small b (state_of n b) (state-holds n b h))
