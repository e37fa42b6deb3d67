-- Images of every version that is read: what reading them gives, what is refused, and that writing what was read and reading it again changes nothing. Assumes nothing.
use Rattle.std.specs.Prelude.{Ok, Err}
use mathlib.Core.Path.{◌≡◌, refl, sym, ◌∙◌, ap, subst}
use mathlib.Core.Bool.{Bool, true, false, cond}
use mathlib.Core.List.{List}
use mathlib.Core.Logic.{◌↔◌}
use Prim.Native.Nat.{ℕ, ◌≤◌}
use native.Mathlib.Omega.{arith}
use lib.Dec.{eqb}
use borrow.Author.Tests.{eq-eqb}
use Rattle.linked_lists.specs.Links.{none}
use Rattle.pool_state.specs.Shown.{pool}
use Rattle.pool_state.specs.State.{state_of}
use Rattle.pool_state.specs.Sound.{book_of}
use Rattle.rules.specs.Rules.{sum}
use Rattle.rules_lowest.specs.Lowest.{low_sound}
use Rattle.account_state.specs.Account.{account, SoundAccount}
use Rattle.account_state.specs.declared.Account.{Account}
use Rattle.pool_state.proofs.States.{state-holds}
use Rattle.pool_state.proofs.Book.{book-back, holds-sound, sound-holds}
use Rattle.bytes_be.specs.Numbers.{Bytes}
use Rattle.image_parts.specs.Layout.{Layout, Lawful, Housed, version1, version2, current, layout_of, length_at}
use Rattle.image_parts.specs.Read.{number_in}
use Rattle.image_parts.proofs.Lawful.{small-pool, housed-of}
use Rattle.image_writing.specs.Writing.{image_of}
use Rattle.image_reading.specs.Reading.{grown}
use Rattle.image_reading.proofs.Grown.{wider}
use Rattle.image.specs.Writing.{Image, number_of, invalid}
use Rattle.image.specs.Reading.{Handed, accepted, told_by_lem, reading_of, layout_in, reading_any}
use Rattle.image.proofs.Rounds.{told-sound, framed-back, read-written, image-accepted, accepted-image, refused-exactly}

-- ---- what grows keeps its chain, its shelf and its figure, and stays sound

module _ (f : Layout) (housed : Housed f) (a : Account) (sound : SoundAccount f.records a) where
  abbrev n : ℕ
  n = f.records

  few : n ≤ none
  few = small-pool f housed.lawful

  pub grown-sound : SoundAccount pool (grown n pool a)
  unfolding state_of
  grown-sound =
      let b = book_of n a.ranges in
      record {
        ranges = holds-sound pool (omega arith) b (state_of pool b) (state-holds pool b (wider n pool b housed.room sound.ranges.book));
        low = ap (λ (t : ℕ). low_sound t a.lowest) (sym (sound-holds n a.ranges sound.ranges).counts) ∙ sound.low;
      }

  pub grown-book : book_of pool (grown n pool a).ranges ≡ book_of n a.ranges
  grown-book = book-back pool (omega arith) (book_of n a.ranges) (wider n pool (book_of n a.ranges) housed.room sound.ranges.book)

  -- an image tells its own version
  version-told : number_in (image_of f a) 0 length_at ≡ f.version
  version-told = (framed-back f housed.lawful a sound).versions

  -- the image of a sound account by any layout that is read, read: what it tells, with the records of now
  pub read-any : layout_of f.version ≡ f → reading_any (image_of f a) ≡ accepted (grown n pool (told_by_lem f a))
  unfolding reading_any
  read-any e =
      let same : layout_in (image_of f a) ≡ f = ap layout_of version-told ∙ e in
      rw (same, read-written f housed.lawful a sound)

-- an account of now is as it was
pub grown-same : (a : Account) → SoundAccount pool a → grown pool pool a ≡ a
grown-same a sound = (λ z. account (sound.ranges.state z) a.lowest)

pub read-current : (a : Account) → SoundAccount pool a → reading_any (image_of current a) ≡ accepted a
read-current a sound = read-any current (housed-of 3) a sound refl ∙ ap accepted (grown-same a sound)

-- an older image gives the total as the lowest figure, an empty one too
pub read-version2 : (a : Account) → SoundAccount pool a → reading_any (image_of version2 a) ≡ accepted (account a.ranges a.ranges.free_size)
read-version2 a sound = read-any version2 (housed-of 2) a sound refl ∙ ap accepted (grown-same (told_by_lem version2 a) (told-sound version2 a sound))

pub read-version1 : (a : Account) → SoundAccount version1.records a → reading_any (image_of version1 a) ≡ accepted (grown version1.records pool (account a.ranges a.ranges.free_size))
read-version1 a sound = read-any version1 (housed-of 1) a sound refl

-- ---- what is accepted

module _ (l : List ℕ) (bytes : Bytes l) where
  abbrev f : Layout
  f = layout_in l

  housed : Housed f
  housed = housed-of (number_in l 0 length_at)

  -- what is accepted is the image of a sound account by the layout that the first byte tells
  pub any-image : (reading_any l).number ≡ number_of (Ok tt) → Image f l
  unfolding reading_any
  any-image e = accepted-image f housed.lawful l bytes e

  pub any-state : (h : (reading_any l).number ≡ number_of (Ok tt)) → reading_any l ≡ accepted (grown f.records pool (told_by_lem f (any-image h).state))
  unfolding reading_any
  any-state h =
      let i = any-image h in
      let e = ap (reading_of f) (sym i.bytes) ∙ read-written f housed.lawful i.state i.sound in
      rw e

  pub any-sound : (reading_any l).number ≡ number_of (Ok tt) → SoundAccount pool (reading_any l).state
  any-sound h =
      let i = any-image h in
      subst (SoundAccount pool) (sym (ap (λ (x : Handed). x.state) (any-state h))) (grown-sound f housed (told_by_lem f i.state) (told-sound f i.state i.sound))

  -- what was read, written as the current version and read again, is the same
  pub again-same : (reading_any l).number ≡ number_of (Ok tt) → reading_any (image_of current (reading_any l).state) ≡ reading_any l
  again-same h =
      let e = any-state h in
      read-current (reading_any l).state (any-sound h) ∙ sym (e ∙ ap accepted (sym (ap (λ (x : Handed). x.state) e)))

-- ---- what is refused

-- of the bytes of an image, the first tells its layout
image-told : (f : Layout) → Housed f → layout_of f.version ≡ f → (l : List ℕ) → Image f l → layout_in l ≡ f
image-told f housed e l i = subst (λ (x : List ℕ). layout_in x ≡ f) i.bytes (ap layout_of (version-told f housed i.state i.sound) ∙ e)

-- no sound account writes these bytes, by any layout that is read
pub record Unwritten (l : List ℕ) : Type 0 where
  pub first : Image version1 l → ⊥
  pub second : Image version2 l → ⊥
  pub now : Image current l → ⊥

-- refused is exactly that
pub refused-any : (l : List ℕ) → Bytes l → ((reading_any l).number ≡ number_of (Err invalid)) ↔ Unwritten l
unfolding reading_any
refused-any l bytes = (
  λ e. record { first = no version1 (housed-of 1) refl e; second = no version2 (housed-of 2) refl e; now = no current (housed-of 3) refl e },
  λ h. (refused-exactly (layout_in l) (housed-of (number_in l 0 length_at)).lawful l bytes).1 (pick (eqb (number_in l 0 length_at) version1.version) (eqb (number_in l 0 length_at) version2.version) h),
)
  where
    no : (f : Layout) → Housed f → layout_of f.version ≡ f → (reading_of (layout_in l) l).number ≡ number_of (Err invalid) → Image f l → ⊥
    no f housed same e i =
        let told = image-told f housed same l i in
        (refused-exactly f housed.lawful l bytes).0 (subst (λ (x : Layout). (reading_of x l).number ≡ number_of (Err invalid)) told e) i

    pick : (t u : Bool) → Unwritten l → Image (cond t version1 (cond u version2 current)) l → ⊥
    pick true u h = h.first
    pick false true h = h.second
    pick false false h = h.now
