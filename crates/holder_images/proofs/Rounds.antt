-- Images and sound states with a register are one to one. Assumes nothing.
use Rattle.std.specs.Prelude.{Ok, Err}
use Prim.Native.Nat.{ℕ, ◌^◌, ◌≤◌, ◌<◌}
use mathlib.Core.Bool.{Bool, true, false, cond, ◌&&◌}
use mathlib.Core.List.{List}
use mathlib.Core.Logic.{◌↔◌}
use mathlib.Core.Path.{◌≡◌, refl, sym, ap, ◌∙◌, subst}
use native.Mathlib.Omega.{arith}
use lib.Dec.{T, eqb}
use lib.ListN.{length, length-drop}
use lib.Seq.{get_or-drop}
use borrow.Author.Tests.{eqb-true}
use Rattle.linked_lists.specs.Links.{none}
use Rattle.linked_lists.proofs.Laws.{length-tab}
use Rattle.rules_laws.proofs.Lists.{T_true}
use Rattle.pool_state.specs.Sound.{book_of}
use Rattle.check_state.specs.IsSound as ranges
use Rattle.check_meaning.specs.Paragraph.{Sized}
use Rattle.check_meaning.proofs.Exact as ranges-exact
use Rattle.account_state.specs.Account.{account, SoundAccount}
use Rattle.account_state.specs.declared.Account.{Account}
use Rattle.account_state.proofs.Exact.{both}
use Rattle.bytes_be.specs.Numbers.{Bytes}
use Rattle.image_parts.specs.Layout.{Layout, Figured, current, length_size}
use Rattle.image_parts.proofs.Lawful.{small-pool, figured-current}
use Rattle.image_writing.specs.Writing as allocator
use Rattle.image_reading.specs.Reading as within
use Rattle.image.specs.Writing.{Written, written, invalid}
use Rattle.image.specs.Reading as reads
use Rattle.image.proofs.Rounds as memory
use Rattle.holder_rules.specs.Register.{entries}
use Rattle.holder_rules.specs.Holders as holding
use Rattle.holder_rules.specs.Sound.{register_sound}
use Rattle.holder_rules.specs.States.{is_sound_lem, with_register}
use Rattle.holder_rules.specs.declared.Entry.{Entry}
use Rattle.holder_rules.specs.declared.HolderAllocator.{HolderAllocator}
use Rattle.holder_check.proofs.Exact.{sound→, sound←}
use Rattle.holder_image.specs.Layout.{memory_at, whole_size, rest_of}
use Rattle.holder_image.specs.Bytes.{bytes_of_lem, entry_at_lem, register_in_lem, memory_in, headed}
use Rattle.holder_image.proofs.Fitting.{sound-fits}
use Rattle.holder_image.proofs.Rounds.{memory-back, register-back, headed-back, bytes-again}
use Rattle.holder_images.specs.Writing.{SoundWith, is_sound_with_lem, Image, image_of, writing_of}
use Rattle.holder_images.specs.Reading.{Handed, accepted, refused, memory_read, state_in_lem, low_in_lem, readable, reading_of}
use Rattle.holder_images.specs.Promises.{Promised}
use Rattle.holder_images.proofs.Ways.{wrong-length, done}

-- the entries in the bytes are as many as the register's type says
length-register : (l : List ℕ) → length (register_in_lem l) ≡ entries
unfolding register_in_lem
length-register l = length-tab entries 0 (entry_at_lem l)

-- an allocator that was read is sound
ranges-pass : (f : Layout) (m : List ℕ) → (reads.reading_of f m).number ≡ 0 → ranges.is_sound_lem f.records (reads.reading_of f m).state.ranges ≡ true
unfolding reads.reading_of
ranges-pass f m e = go (within.readable f m) refl e
  where
    go : (t : Bool) → within.readable f m ≡ t → (cond {A = reads.Handed} t (reads.accepted (within.account_in f m)) (reads.refused f)).number ≡ 0
        → ranges.is_sound_lem f.records (cond {A = reads.Handed} t (reads.accepted (within.account_in f m)) (reads.refused f)).state.ranges ≡ true
    go true h k = (both (ranges.is_sound_lem f.records (within.account_in f m).ranges) _ (both (within.framed f m) _ h).1).0
    go false h k = absurd (let v : ⊥ = omega arith in v)

-- so that the register is what is left to look at
pub register-left : (f : Layout) (l : List ℕ) → (memory_read f l).number ≡ 0 → is_sound_lem f.records (state_in_lem f l) ≡ register_sound (book_of f.records (memory_read f l).state.ranges).chain (register_in_lem l)
unfolding is_sound_lem
register-left f l e = ap (λ (b : Bool). b && register_sound (book_of f.records (memory_read f l).state.ranges).chain (register_in_lem l)) (ranges-pass f (memory_in l) e)

-- ---- what reading answers

module _ (f : Layout) (l : List ℕ) where
  pub read-exactly : ((reading_of f l).number ≡ 0) ↔ (readable f l ≡ true)
  unfolding reading_of
  read-exactly = (go (readable f l), λ e. rw e)
    where
      go : (t : Bool) → (cond {A = Handed} t (accepted (state_in_lem f l) (low_in_lem f l)) (refused f)).number ≡ 0 → t ≡ true
      go true k = refl
      go false k = absurd (let v : ⊥ = omega arith in v)

  either : ((reading_of f l).number ≡ 0 → ⊥) → (reading_of f l).number ≡ 2
  unfolding reading_of
  either = go (readable f l)
    where
      go : (t : Bool) → ((cond {A = Handed} t (accepted (state_in_lem f l) (low_in_lem f l)) (refused f)).number ≡ 0 → ⊥) → (cond {A = Handed} t (accepted (state_in_lem f l) (low_in_lem f l)) (refused f)).number ≡ 2
      go true h = absurd (h refl)
      go false h = refl

-- what an accepted read has passed
record Accepted (f : Layout) (l : List ℕ) : Type 0 where
  heads : headed f l ≡ true
  memory : (memory_read f l).number ≡ 0
  register : register_sound (book_of f.records (memory_read f l).state.ranges).chain (register_in_lem l) ≡ true
  reads : reading_of f l ≡ accepted (state_in_lem f l) (low_in_lem f l)

accepted-parts : (f : Layout) (l : List ℕ) → (reading_of f l).number ≡ 0 → Accepted f l
unfolding reading_of readable
accepted-parts f l e =
    let h = (read-exactly f l).0 e in
    let p = both (headed f l) _ h in
    let q = both (eqb (memory_read f l).number 0) _ p.1 in
    let m = eqb-true (memory_read f l).number 0 q.0 in
    record { heads = p.0; memory = m; register = sym (register-left f l m) ∙ q.1; reads = rw h }

module _ (f : Layout) (full : Figured f) (small : rest_of f < 256 ^ length_size) where
  few : f.records ≤ none
  few = small-pool f full.lawful

  -- ---- not written

  module _ (s : HolderAllocator) (low : ℕ) (sized : Sized f.records s.memory) (all : length s.register.entries ≡ entries) where
    passes-sound : is_sound_with_lem f.records s low ≡ true → SoundWith f.records s low
    unfolding is_sound_lem
    passes-sound e =
        let p = both (is_sound_lem f.records s) _ e in
        let q = both (ranges.is_sound_lem f.records s.memory) _ p.0 in
        record {
          memory = record { ranges = ranges-exact.passes-sound f.records few s.memory sized q.0; low = p.1 };
          register = sound→ (book_of f.records s.memory).chain s.register.entries (subst T (sym q.1) tt);
          sized = all;
        }

    pub unsound-refused : (SoundWith f.records s low → ⊥) → (l : List ℕ) → writing_of f s low l ≡ written (Err invalid) l
    unfolding writing_of
    unsound-refused none l = go (is_sound_with_lem f.records s low) refl (eqb (length l) (whole_size f))
      where
        go : (t : Bool) → is_sound_with_lem f.records s low ≡ t → (b : Bool) → cond {A = Written} (b && t) (written (Ok tt) (image_of f s low)) (written (Err invalid) l) ≡ written (Err invalid) l
        go true e b = absurd (none (passes-sound e))
        go false e true = refl
        go false e false = refl

  -- ---- written, and read

  module _ (s : HolderAllocator) (low : ℕ) (h : SoundWith f.records s low) where
    abbrev a : Account
    a = account s.memory low

    abbrev r : List Entry
    r = s.register.entries

    -- it passes the check
    pub passes : is_sound_lem f.records s ≡ true
    unfolding is_sound_lem
    passes = rw (ranges-exact.sound-passes f.records few s.memory h.memory.ranges, T_true (register_sound (book_of f.records s.memory).chain r) (sound← (book_of f.records s.memory).chain r h.register))

    pub sound-written : (l : List ℕ) → length l ≡ whole_size f → writing_of f s low l ≡ written (Ok tt) (image_of f s low)
    sound-written l len =
        let low-passes = h.memory.low in
        let p : is_sound_with_lem f.records s low ≡ true = (λ i. passes i && low-passes i) in
        sym (done f s low l len true (sym p) (image_of f s low) refl refl)

    memory-is : memory_read f (image_of f s low) ≡ reads.accepted a
    unfolding image_of
    memory-is = ap (reads.reading_of f) (memory-back f r (allocator.image_of f a)) ∙ memory.read_same f full a h.memory

    register-is : register_in_lem (image_of f s low) ≡ r
    unfolding image_of
    register-is = register-back f r (allocator.image_of f a) h.sized (λ i b. sound-fits r h.register.sound i (let n = h.sized in omega arith))

    heads : headed f (image_of f s low) ≡ true
    unfolding image_of
    heads = headed-back f r (allocator.image_of f a) (memory.framed-back f full.lawful a h.memory).sized small

    state-is : state_in_lem f (image_of f s low) ≡ s
    state-is = let p = memory-is in let q = register-is in (λ i. with_register (holding.both (p i).state.ranges (q i)))

    reads-it : readable f (image_of f s low) ≡ true
    unfolding readable
    reads-it =
        let p = memory-is in
        let q = state-is in
        rw (heads, ap (λ (x : reads.Handed). eqb x.number 0) p) (ap (is_sound_lem f.records) q ∙ passes)

    pub read-written : reading_of f (image_of f s low) ≡ accepted s low
    unfolding reading_of
    read-written = let p = memory-is in let q = state-is in rw reads-it (λ i. accepted (q i) (p i).state.lowest)

  -- ---- read, and written

  module _ (l : List ℕ) (bytes : Bytes l) where
    memory-bytes : Bytes (memory_in l)
    memory-bytes i b = subst (λ (x : ℕ). x < 256) (sym (get_or-drop memory_at l i 0)) (bytes _ (let d = length-drop memory_at l in omega arith))

    module _ (e : (reading_of f l).number ≡ 0) where
      p : Accepted f l
      p = accepted-parts f l e

      -- the bytes that the state in them has
      same_bytes : image_of f (state_in_lem f l) (low_in_lem f l) ≡ l
      unfolding image_of
      same_bytes = ap (λ (m : List ℕ). bytes_of_lem f (holding.both m (register_in_lem l))) (memory.written_read f full.lawful (memory_in l) memory-bytes p.memory) ∙ bytes-again f l bytes p.heads

      pub written_read : image_of f (reading_of f l).state (reading_of f l).lowest ≡ l
      written_read = (let q = p.reads in (λ i. image_of f (q i).state (q i).lowest)) ∙ same_bytes

      memory-sound : SoundAccount f.records (memory_read f l).state
      memory-sound =
          let i = memory.accepted-image f full.lawful (memory_in l) memory-bytes p.memory in
          let same : memory_read f l ≡ reads.accepted i.state = ap (reads.reading_of f) (sym i.bytes) ∙ memory.read_same f full i.state i.sound in
          subst (SoundAccount f.records) (sym (ap (λ (x : reads.Handed). x.state) same)) i.sound

      pub accepted-image : Image f l
      accepted-image = record {
        state = state_in_lem f l;
        lowest = low_in_lem f l;
        sound = record { memory = memory-sound; register = sound→ (book_of f.records (memory_read f l).state.ranges).chain (register_in_lem l) (subst T (sym p.register) tt); sized = length-register l };
        bytes = same_bytes;
      }

    -- ---- refused

    pub refused-exactly : ((reading_of f l).number ≡ 2) ↔ (Image f l → ⊥)
    refused-exactly = (
      λ e i. (let k : (reading_of f l).number ≡ 0 = ap (λ (x : List ℕ). (reading_of f x).number) (sym i.bytes) ∙ ap (λ (x : Handed). x.number) (read-written i.state i.lowest i.sound) in omega arith),
      λ none-writes. either f l (λ e. none-writes (accepted-image e)),
    )

  pub promised : Promised f
  promised = record {
    sound-written = sound-written;
    wrong-length = λ s low l h. sym (wrong-length f s low l h);
    unsound-refused = unsound-refused;
    read-written = read-written;
    written_read = written_read;
    refused-exactly = refused-exactly;
  }

pub holder-images-promised : Promised current
holder-images-promised = promised current figured-current (omega arith)
