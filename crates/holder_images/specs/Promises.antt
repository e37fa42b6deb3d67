-- What is promised of the image by value, sentence by sentence; `crates/holder_images/proofs/Rounds.antt` shows each, of every layout whose fields can hold its own
-- numbers and that has a low figure. Assumes nothing.
use Rattle.std.specs.Prelude.{ℕ, List, ◌≢◌, ◌↔◌, ◌≡◌, length, Ok, Err}
use Rattle.check_meaning.specs.Paragraph.{Sized}
use Rattle.bytes_be.specs.Numbers.{Bytes}
use Rattle.image_parts.specs.Layout.{Layout}
use Rattle.image.specs.Writing.{written, invalid}
use Rattle.holder_rules.specs.Register.{entries}
use Rattle.holder_rules.specs.declared.HolderAllocator.{HolderAllocator}
use Rattle.holder_image.specs.Layout.{whole_size}
use Rattle.holder_images.specs.Writing.{SoundWith, Image, image_of, writing_of}
use Rattle.holder_images.specs.Reading.{accepted, reading_of}

pub record Promised (f : Layout) : Type 0 where
  -- a sound state is written over any slice of the length
  pub sound-written : (s : HolderAllocator) (low : ℕ) → SoundWith f.records s low → (l : List ℕ) → length l ≡ whole_size f → writing_of f s low l ≡ written (Ok tt) (image_of f s low)
  -- a slice of another length stays as it was, and so does any where the state is not sound; its arrays have the places that their types say, and no others can be made
  pub wrong-length : (s : HolderAllocator) (low : ℕ) (l : List ℕ) → length l ≢ whole_size f → writing_of f s low l ≡ written (Err invalid) l
  pub unsound-refused : (s : HolderAllocator) (low : ℕ) → Sized f.records s.memory → length s.register.entries ≡ entries → (SoundWith f.records s low → ⊥) → (l : List ℕ) → writing_of f s low l ≡ written (Err invalid) l
  -- reading what was written gives the state and the figure, and writing what was read the bytes
  pub read-written : (s : HolderAllocator) (low : ℕ) → SoundWith f.records s low → reading_of f (image_of f s low) ≡ accepted s low
  pub written_read : (l : List ℕ) → Bytes l → (reading_of f l).number ≡ 0 → image_of f (reading_of f l).state (reading_of f l).lowest ≡ l
  -- bytes are refused exactly if no sound state writes them
  pub refused-exactly : (l : List ℕ) → Bytes l → ((reading_of f l).number ≡ 2) ↔ (Image f l → ⊥)
