-- The images of sound states with a register, and what writing one answers. A state goes with the lowest figure beside its total, since the image has it. Assumes nothing.
use Rattle.std.specs.Prelude.{ℕ, Bool, cond, ◌&&◌, List, ◌≡◌, eqb, length, Ok, Err}
use Rattle.rules_lowest.specs.Lowest.{low_sound}
use Rattle.pool_state.specs.Sound.{book_of}
use Rattle.account_state.specs.Account.{account, SoundAccount}
use Rattle.image_parts.specs.Layout.{Layout}
use Rattle.image_writing.specs.Writing as allocator
use Rattle.image.specs.Writing.{Written, written, invalid}
use Rattle.holder_rules.specs.Register.{entries}
use Rattle.holder_rules.specs.Holders.{both}
use Rattle.holder_rules.specs.Sound.{SoundRegister}
use Rattle.holder_rules.specs.States.{is_sound_lem}
use Rattle.holder_rules.specs.declared.HolderAllocator.{HolderAllocator}
use Rattle.holder_image.specs.Layout.{whole_size}
use Rattle.holder_image.specs.Bytes.{bytes_of_lem}

-- the allocator is a sound account with this figure, and the register is sound beside its free ranges and has the entries that its type says
pub record SoundWith (n : ℕ) (s : HolderAllocator) (low : ℕ) : Type 0 where
  pub memory : SoundAccount n (account s.memory low)
  pub register : SoundRegister (book_of n s.memory).chain s.register.entries
  pub sized : length s.register.entries ≡ entries

-- the check
abbrev pub is_sound_with_lem : ℕ → HolderAllocator → ℕ → Bool
is_sound_with_lem n s low = is_sound_lem n s && low_sound s.memory.free_size low

-- the register's bytes, and behind them the image of the account
unfoldable pub image_of : Layout → HolderAllocator → ℕ → List ℕ
image_of f s low = bytes_of_lem f (both (allocator.image_of f (account s.memory low)) s.register.entries)

-- l is the image of a sound state
pub record Image (f : Layout) (l : List ℕ) : Type 0 where
  pub state : HolderAllocator
  pub lowest : ℕ
  pub sound : SoundWith f.records state lowest
  pub bytes : image_of f state lowest ≡ l

unfoldable pub writing_of : Layout → HolderAllocator → ℕ → List ℕ → Written
writing_of f s low l = cond (eqb (length l) (whole_size f) && is_sound_with_lem f.records s low) (written (Ok tt) (image_of f s low)) (written (Err invalid) l)
