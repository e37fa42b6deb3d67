-- The images of sound accounts, and what writing one answers. Assumes nothing.
use Rattle.std.specs.Prelude.{Result, ℕ, cond, ◌&&◌, List, ◌≡◌, eqb, length, Ok, Err}
use Rattle.account_state.specs.Account.{SoundAccount, is_sound_lem}
use Rattle.account_state.specs.declared.Account.{Account}
use Rattle.image_parts.specs.Layout.{Layout, image_size_lem}
use Rattle.image_writing.specs.Writing.{image_of}
use Rattle.image.specs.declared.InvalidEntry.{InvalidEntry}

-- l is the image of a sound account
pub record Image (f : Layout) (l : List ℕ) : Type 0 where
  pub state : Account
  pub sound : SoundAccount f.records state
  pub bytes : image_of f state ≡ l

-- what a call of an image answers
abbrev pub ImageAnswer : Type 0
ImageAnswer = Result (Unit {0}) InvalidEntry

abbrev pub invalid : InvalidEntry
invalid = record {}

-- the number of an answer
abbrev pub number_of : ImageAnswer → ℕ
number_of (Ok _) = 0
number_of (Err _) = 2

-- what writing answers, and the bytes that it leaves
pub record Written : Type 0 where
  pub number : ℕ
  pub bytes : List ℕ

abbrev pub written : ImageAnswer → List ℕ → Written
written a l = record { number = number_of a; bytes = l }

unfoldable pub writing_of : Layout → Account → List ℕ → Written
writing_of f a l = cond (eqb (length l) (image_size_lem f) && is_sound_lem f.records a) (written (Ok tt) (image_of f a)) (written (Err invalid) l)
