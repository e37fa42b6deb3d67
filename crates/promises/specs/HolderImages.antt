-- The image of an allocator with its register, by value and as the C calls have it, is one, and the C calls are the calls by value; `crates/promises/proofs/HolderImages.antt` shows each
-- sentence, of every layout whose fields can hold its own numbers and that has a low figure. Assumes nothing.
use Rattle.std.specs.Prelude.{ℕ, true, List, map, ◌↔◌, ◌≡◌, pos, length, Err}
use Rattle.rules_lowest.specs.Lowest.{never, noted, sums, least}
use Rattle.calls.specs.Calls.{signed_of}
use Rattle.calls.specs.declared.MemoryError.TheVariants.{InvalidEntry}
use Rattle.bytes_be.specs.Numbers.{Bytes}
use Rattle.image_parts.specs.Layout.{Layout}
use Rattle.c_over.specs.CCalls.{Returned, returned}
use Rattle.c_over.specs.Images.{lowest_stored}
use Rattle.holder_rules.specs.Holders.{Call, under}
use Rattle.holder_rules.specs.States.{new_of}
use Rattle.holder_rules.specs.declared.HolderAllocator.{HolderAllocator}
use Rattle.holder_serve.specs.Made.{number_of, address_of, made}
use Rattle.holder_serve.specs.declared.HolderOutcome.{HolderOutcome}
use Rattle.holder_image.specs.Layout.{whole_size}
use Rattle.holder_image.specs.Bytes.{memory_in}
use Rattle.holder_images.specs.Writing.{SoundWith, Image, image_of}
use Rattle.holder_images.specs.Reading.{reading_of}
use Rattle.holder_calls.specs.Calls.{serves, signed, call_over_lem, new_over}
use Rattle.holder_calls.specs.Doors.{after, vouchers}

-- the figure beside the state that a call by value leaves: where it is accepted, the less of the one before and the new total
abbrev pub noted_after : ℕ → HolderOutcome → ℕ
noted_after low o = noted (number_of o.answer) o.state.memory.free_size low

-- such an outcome as a C call has it: one signed number, and the image of state and figure
abbrev pub as_returned : Layout → ℕ → HolderOutcome → Returned
as_returned f low o = returned (signed (number_of o.answer) (address_of o.answer)) (image_of f o.state (noted_after low o))

pub record HolderImagePromises (f : Layout) : Type 0 where
  -- bytes are read exactly if a C call serves them
  pub read-served : (l : List ℕ) → ((reading_of f l).number ≡ 0) ↔ (serves f l ≡ true)
  -- so bytes that no sound state writes are -2, and stay as they were
  pub no-image : (c : Call) (l : List ℕ) → Bytes l → (Image f l → ⊥) → call_over_lem f c l ≡ returned (signed_of (Err InvalidEntry)) l
  -- on the image of a sound state a C call returns what the call by value answers, and leaves the image of the state that this leaves
  pub by_value : (c : Call) (s : HolderAllocator) (low : ℕ) → SoundWith f.records s low → call_over_lem f c (image_of f s low) ≡ as_returned f low (made f.records s c)
  -- which is sound again,
  pub sound-left : (c : Call) (s : HolderAllocator) (low : ℕ) → SoundWith f.records s low → SoundWith f.records (made f.records s c).state (noted_after low (made f.records s c))
  -- as the first is, which is that of `new`
  pub new-by-value : (l : List ℕ) → length l ≡ whole_size f → new_over f l ≡ returned (pos 0) (image_of f (new_of f.records) never)
  -- request T-08: the lowest figure stored in the allocator's part is the least total after an accepted call since `new`, counted from the calls and their answers alone, 2^64-1 where none was accepted
  pub lowest-counted : (l : List ℕ) → length l ≡ whole_size f → (cs : List Call)
      → lowest_stored f (memory_in (after f (new_over f l).bytes cs)) ≡ least never (sums 0 (map under (vouchers f (new_over f l).bytes cs)))
  -- and so the figure that is read goes on from the image of any sound state: the least of its own figure and of the sums, counted from its own total
  pub lowest-from : (s : HolderAllocator) (low : ℕ) → SoundWith f.records s low → (cs : List Call)
      → (reading_of f (after f (image_of f s low) cs)).lowest ≡ least low (sums s.memory.free_size (map under (vouchers f (image_of f s low) cs)))
