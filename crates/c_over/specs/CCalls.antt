-- What each C call returns, and every byte of the image that it leaves, for every image and all numbers. Assumes nothing.
use Rattle.std.specs.Prelude.{ℕ, cond, List, eqb, pos, length, Ok, Err}
use Rattle.rules.specs.Rules.{Call, Free, Allocate, Reserve}
use Rattle.calls.specs.Calls.{signed_of}
use Rattle.calls.specs.declared.MemoryError.TheVariants.{InvalidEntry}
use Rattle.account_state.specs.Account.{opened}
use Rattle.account_state.specs.declared.Entered.{Entered}
use Rattle.account_calls.specs.Made.{made}
use Rattle.pages.specs.Calls.{PageCall, AllocatePages, FreePages, byte_call}
use Rattle.image_parts.specs.Layout.{Layout, current, image_size_lem}
use Rattle.image_writing.specs.Writing.{image_of}
use Rattle.image.specs.Reading.{reading_of, reading_any}
use Rattle.image_upgrade.specs.Upgrades.{upgrades}
pub use Rattle.image_calls.specs.Lists.{Returned, returned}
unfoldable pub use Rattle.image_calls.specs.Lists.{finished, over}

-- a call on the account whose image this is; an image of another length, or of no sound account, does not serve
unfoldable pub call_over_lem : Layout → Call → List ℕ → Returned
call_over_lem f c l = over f (eqb (reading_of f l).number 0) (made f.records (reading_of f l).state c) l

abbrev pub allocate_over : Layout → ℕ → ℕ → List ℕ → Returned
allocate_over f z o l = call_over_lem f (Allocate z o) l

abbrev pub reserve_over : Layout → ℕ → ℕ → ℕ → List ℕ → Returned
reserve_over f a z o l = call_over_lem f (Reserve a z o) l

abbrev pub free_over : Layout → ℕ → ℕ → List ℕ → Returned
free_over f a z l = call_over_lem f (Free a z) l

-- a page call is one call, of so many bytes (`pages-read` has the lines of the page calls in its place)
abbrev pub pages_over : Layout → PageCall → List ℕ → Returned
pages_over f p l = call_over_lem f (byte_call p) l

abbrev pub allocate_pages_over : Layout → ℕ → ℕ → List ℕ → Returned
allocate_pages_over f c o l = pages_over f (AllocatePages c o) l

abbrev pub free_pages_over : Layout → ℕ → ℕ → List ℕ → Returned
free_pages_over f a c l = pages_over f (FreePages a c) l

-- the outcome of `new`
abbrev pub begun : Layout → Entered
begun f = record { answer = Ok (record { 0 = 0 }); state = opened f.records }

-- whatever is there serves, if it has the length
unfoldable pub new_over : Layout → List ℕ → Returned
new_over f l = over f (eqb (length l) (image_size_lem f)) (begun f) l

-- the old bytes, of any version, as the current image; else the slice is as it was
unfoldable pub upgrade_over : List ℕ → List ℕ → Returned
upgrade_over old l = cond (upgrades old l) (returned (pos 0) (image_of current (reading_any old).state)) (returned (signed_of (Err InvalidEntry)) l)
