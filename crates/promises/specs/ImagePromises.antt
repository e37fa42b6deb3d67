-- What is promised of images, and of the C calls over one slice, sentence by sentence; `crates/promises/proofs/ImagePromises.antt` shows each, of every layout
-- whose fields can hold its own numbers and that has a low figure. Assumes nothing.
use Rattle.std.specs.Prelude.{ℕ, List, ◌≢◌, ◌↔◌, ◌≡◌, pos, length, Err}
use Rattle.rules.specs.Rules.{Call}
use Rattle.account_state.specs.Account.{opened, SoundAccount}
use Rattle.account_state.specs.declared.Account.{Account}
use Rattle.calls.specs.Calls.{signed_of, number_from}
use Rattle.calls.specs.declared.MemoryError.TheVariants.{InvalidEntry}
use Rattle.bytes_be.specs.Numbers.{Bytes}
use Rattle.image_parts.specs.Layout.{Layout, image_size_lem}
use Rattle.image_writing.specs.Writing.{image_of}
use Rattle.image.specs.Writing.{Image}
use Rattle.image.specs.Reading.{accepted, reading_of}
use Rattle.image_calls.specs.Lists.{Returned, returned}
use Rattle.c_over.specs.CCalls.{call_over_lem, new_over}
use Rattle.c_over.specs.Images.{images, lowest_stored}
use Rattle.promises.specs.Clients.{ClientDemand}
use Rattle.promises.specs.Lowest.{ClientLowest}
use Rattle.promises.specs.Images.{image_client}

pub record ImagePromises (f : Layout) : Type 0 where
  -- reading what was written gives the account, and writing what was read the bytes;
  pub read-written : (a : Account) → SoundAccount f.records a → reading_of f (image_of f a) ≡ accepted a
  pub written_read : (l : List ℕ) → Bytes l → (reading_of f l).number ≡ 0 → image_of f (reading_of f l).state ≡ l
  -- bytes are refused exactly if no sound account writes them
  pub refused-exactly : (l : List ℕ) → Bytes l → ((reading_of f l).number ≡ 2) ↔ (Image f l → ⊥)
  -- `new` over whatever lies in a slice of the length
  pub new-written : (l : List ℕ) → length l ≡ image_size_lem f → new_over f l ≡ returned (pos 0) (image_of f (opened f.records))
  -- a refusal changes no byte; another length, and bytes that no sound account writes, are -2
  pub refused-same : (c : Call) (l : List ℕ) → number_from (call_over_lem f c l).number ≢ 0 → (call_over_lem f c l).bytes ≡ l
  pub wrong-length : (c : Call) (l : List ℕ) → length l ≢ image_size_lem f → call_over_lem f c l ≡ returned (signed_of (Err InvalidEntry)) l
  pub no-image : (c : Call) (l : List ℕ) → Bytes l → (Image f l → ⊥) → call_over_lem f c l ≡ returned (signed_of (Err InvalidEntry)) l
  -- demand 3 of the calls in any order, from the last `new` on
  pub books-close : (l : List ℕ) → length l ≡ image_size_lem f → ClientDemand (images f l) (image_client f l)
  -- and the stored lowest figure is the least total after an accepted call since then, counted from the calls and their answers alone
  pub lowest-counted : (l : List ℕ) → length l ≡ image_size_lem f → ClientLowest (images f l) (image_client f l) (lowest_stored f)
