-- An audit in turns: where it stands, and how many bytes of the buffer are still to be judged. Assumes nothing.
use Rattle.std.specs.Prelude.{ℕ, ◌≤◌, List, length}
use Rattle.pool_state.specs.Sound.{SoundState}
use Rattle.pool_state.specs.declared.MemoryAllocator.{MemoryAllocator}
use Rattle.audit.specs.declared.Sitting.{Sitting}

-- the bytes to be judged are there, and no more than k calls have been passed
pub record Seated (r : Sitting) (buf : List ℕ) (k : ℕ) : Type 0 where
  pub held : r.held ≤ length buf
  pub few : r.index ≤ k

-- the next turn may be taken
pub record Ready (n : ℕ) (s : MemoryAllocator) (r : Sitting) (buf : List ℕ) (k : ℕ) : Type 0 where
  pub sound : SoundState n s
  pub seated : Seated r buf k
