-- Images and what they tell of sound accounts are one to one, over any layout whose fields can hold its numbers. Assumes nothing.
use Rattle.std.specs.Prelude.{Ok, Err}
use mathlib.Core.Path.{◌≡◌, refl, sym, ◌∙◌, ap}
use mathlib.Core.Bool.{Bool, true, false, cond, ◌&&◌}
use mathlib.Core.Logic.{◌↔◌, ◌≢◌}
use mathlib.Core.List.{List}
use Prim.Native.Nat.{ℕ, ◌^◌, ◌≤◌, ◌<◌}
use lib.Dec.{eqb}
use borrow.Author.Tests.{le-leb, ne_eqb}
use native.Mathlib.Omega.{arith}
use lib.ListN.{length}
use Rattle.linked_lists.specs.Links.{none}
use Rattle.rules_lowest.specs.Lowest.{low_sound}
use Rattle.account_state.specs.Account.{account, SoundAccount, is_sound_lem}
use Rattle.account_state.specs.declared.Account.{Account}
use Rattle.account_state.proofs.Exact.{sound-passes, passes-sound}
use Rattle.bytes_be.specs.Numbers.{Bytes}
use Rattle.image_parts.specs.Layout.{Layout, Lawful, Figured, word, image_size_lem}
use Rattle.image_writing.specs.Writing.{image_of}
use Rattle.image.specs.Writing.{Image, number_of, written, writing_of, invalid}
use Rattle.image_parts.proofs.Lawful.{small-pool}
use Rattle.image_parts.proofs.Loops.{both}
use Rattle.image_reading.specs.Reading.{framed, account_in}
use Rattle.image_reading.proofs.Whole.{state-sized}
use Rattle.image.specs.Reading.{Handed, accepted, refused, told_by_lem, reading_of}
use Rattle.image.proofs.Ways.{Frame, framed-frame, frame-framed, read_done, done}
use Rattle.image.proofs.Fitting.{Fits, sound-fits, low_fits}
use Rattle.image.proofs.ReadBack.{account-back, frame_back}
use Rattle.image.proofs.WriteBack.{image-again}

-- what an accepted read has passed
record Accepted (f : Layout) (l : List ℕ) : Type 0 where
  frames : framed f l ≡ true
  passes : is_sound_lem f.records (account_in f l) ≡ true
  reads : reading_of f l ≡ accepted (account_in f l)

accepted-parts : (f : Layout) (l : List ℕ) → (reading_of f l).number ≡ number_of (Ok tt) → Accepted f l
unfolding reading_of
accepted-parts f l e = go (framed f l && is_sound_lem f.records (account_in f l)) refl e
  where
    go : (t : Bool) → (framed f l && is_sound_lem f.records (account_in f l)) ≡ t → (cond {A = Handed} t (accepted (account_in f l)) (refused f)).number ≡ number_of (Ok tt) → Accepted f l
    go true h k = let p = both (framed f l) (is_sound_lem f.records (account_in f l)) h in record { frames = p.0; passes = p.1; reads = rw h }
    go false h k = absurd (omega arith)

either : (f : Layout) (l : List ℕ) → ((reading_of f l).number ≡ number_of (Ok tt) → ⊥) → (reading_of f l).number ≡ number_of (Err invalid)
unfolding reading_of
either f l = go (framed f l && is_sound_lem f.records (account_in f l))
  where
    go : (t : Bool) → ((cond {A = Handed} t (accepted (account_in f l)) (refused f)).number ≡ number_of (Ok tt) → ⊥) → (cond {A = Handed} t (accepted (account_in f l)) (refused f)).number ≡ number_of (Err invalid)
    go true h = absurd (h refl)
    go false h = refl

-- what a layout tells of a sound account is sound
pub told-sound : (f : Layout) (a : Account) → SoundAccount f.records a → SoundAccount f.records (told_by_lem f a)
told-sound f a h = record { ranges = h.ranges; low = go (eqb f.low 0) }
  where
    go : (t : Bool) → low_sound a.ranges.free_size (cond t a.ranges.free_size a.lowest) ≡ true
    go true = rw (le-leb a.ranges.free_size a.ranges.free_size (omega arith))
    go false = h.low

module _ (f : Layout) (lawful : Lawful f) where
  small : f.records ≤ none
  small = small-pool f lawful

  module _ (a : Account) (h : SoundAccount f.records a) where
    fits : Fits f.records a.ranges
    fits = sound-fits f.records small a.ranges h.ranges

    low-fit : a.lowest < 256 ^ word
    low-fit = low_fits a.ranges.free_size a.lowest fits.total h.low

    pub framed-back : Frame f (image_of f a)
    framed-back = frame_back f lawful a fits low-fit

    pub back : account_in f (image_of f a) ≡ told_by_lem f a
    back = account-back f lawful a fits low-fit

    -- reading what was written gives what the layout tells of the account
    pub read-written : reading_of f (image_of f a) ≡ accepted (told_by_lem f a)
    read-written =
        sym (read_done f (image_of f a) true (frame-framed f (image_of f a) framed-back) refl (told_by_lem f a) (sym back) true (sym (sound-passes f.records small (told_by_lem f a) (told-sound f a h))) refl)

    pub read-after-write : (l : List ℕ) → length l ≡ image_size_lem f → reading_of f (writing_of f a l).bytes ≡ accepted (told_by_lem f a)
    read-after-write l len = rw (← done f a l len true (sym (sound-passes f.records small a h)) (image_of f a) refl refl) read-written

  -- writing what was read gives the bytes
  pub written_read : (l : List ℕ) → Bytes l → (reading_of f l).number ≡ number_of (Ok tt) → image_of f (reading_of f l).state ≡ l
  written_read l bytes e = let p = accepted-parts f l e in rw p.reads (image-again f lawful l bytes (framed-frame f l p.frames))

  pub write-after-read : (l l' : List ℕ) → Bytes l → (reading_of f l).number ≡ number_of (Ok tt) → length l' ≡ image_size_lem f → writing_of f (reading_of f l).state l' ≡ written (Ok tt) l
  write-after-read l l' bytes e len =
      let p = accepted-parts f l e in
      let t : is_sound_lem f.records (reading_of f l).state ≡ true = rw p.reads p.passes in
      sym (done f (reading_of f l).state l' len true (sym t) l refl (sym (written_read l bytes e)))

  -- what is accepted is the image of a sound account, and every such image is
  pub image-accepted : (l : List ℕ) → Image f l → (reading_of f l).number ≡ number_of (Ok tt)
  image-accepted l i = rw (← i.bytes, read-written i.state i.sound)

  pub accepted-image : (l : List ℕ) → Bytes l → (reading_of f l).number ≡ number_of (Ok tt) → Image f l
  accepted-image l bytes e =
      let p = accepted-parts f l e in
      record { state = account_in f l; sound = passes-sound f.records small (account_in f l) (state-sized f l) p.passes; bytes = image-again f lawful l bytes (framed-frame f l p.frames) }

  -- refused is exactly what no sound account writes
  pub refused-exactly : (l : List ℕ) → Bytes l → ((reading_of f l).number ≡ number_of (Err invalid)) ↔ (Image f l → ⊥)
  refused-exactly l bytes = (λ e i. (let p = image-accepted l i in omega arith), λ none-writes. either f l (λ e. none-writes (accepted-image l bytes e)))

  -- of two sound accounts with one image, it tells the same
  pub one-image : (a b : Account) → SoundAccount f.records a → SoundAccount f.records b → image_of f a ≡ image_of f b → told_by_lem f a ≡ told_by_lem f b
  one-image a b h k e = sym (back a h) ∙ ap (account_in f) e ∙ back b k

-- an image with a low figure tells all of the account
pub told-all : (f : Layout) → f.low ≢ 0 → (a : Account) → told_by_lem f a ≡ a
told-all f d a = ap (λ (t : Bool). account a.ranges (cond t a.ranges.free_size a.lowest)) (ne_eqb f.low 0 d)

pub read_same : (f : Layout) → Figured f → (a : Account) → SoundAccount f.records a → reading_of f (image_of f a) ≡ accepted a
read_same f full a h = read-written f full.lawful a h ∙ ap accepted (told-all f full.figured a)
