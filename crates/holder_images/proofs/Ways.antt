-- What the definitions give on each way through the code. Assumes nothing.
use Rattle.std.specs.Prelude.{Ok, Err}
use Prim.Native.Nat.{ℕ, ◌+◌, ◌-◌}
use mathlib.Core.Bool.{Bool, true, false}
use mathlib.Core.List.{List, ◌++◌}
use mathlib.Core.Path.{◌≡◌, sym, ap, ◌∙◌}
use native.Mathlib.Omega.{arith}
use lib.ListN.{length, take, length-drop}
use borrow.Author.Tests.{eq-eqb, ne_eqb}
use borrow.Author.Rules.{part_to_end}
use borrow.Rule.Slice.PartMut.{put_mid}
use Rattle.account_state.specs.Account.{account}
use Rattle.account_state.specs.declared.Account.{Account}
use Rattle.image_parts.specs.Layout.{Layout, current}
use Rattle.image_writing.specs.Writing as allocator
use Rattle.image.specs.Reading as reads
use Rattle.image.specs.Writing.{number_of, written, ImageAnswer, invalid}
use Rattle.holder_rules.specs.Holders.{both}
use Rattle.holder_rules.specs.States.{is_sound_lem}
use Rattle.holder_rules.specs.declared.Entry.{Entry}
use Rattle.holder_rules.specs.declared.HolderAllocator.{HolderAllocator}
use Rattle.holder_image.specs.Layout.{memory_at, whole_size}
use Rattle.holder_image.specs.Bytes.{front_bytes_lem, bytes_of_lem, register_in_lem, memory_in, headed}
use Rattle.holder_image.proofs.Parts.{headed-size, part_placed}
use Rattle.holder_images.specs.Writing.{is_sound_with_lem, image_of, writing_of}
use Rattle.holder_images.specs.Reading.{Handed, accepted, refused, memory_read, state_of, readable, reading_of, judged}
use Rattle.holder_images.proofs.Current.{current-read}

-- ---- writing

module _ (f : Layout) (s : HolderAllocator) (low : ℕ) (l : List ℕ) where
  pub wrong-length : (length l ≡ whole_size f → ⊥) → written (Err invalid) l ≡ writing_of f s low l
  unfolding writing_of
  wrong-length h = rw (ne_eqb (length l) (whole_size f) h)

  module _ (h : length l ≡ whole_size f) (t : Bool) (e : t ≡ is_sound_with_lem f.records s low) where
    pub unsound : t ≡ false → written (Err invalid) l ≡ writing_of f s low l
    unfolding writing_of
    unsound off = rw (eq-eqb (length l) (whole_size f) h, ← e, off)

    pub done : (l' : List ℕ) → t ≡ true → l' ≡ image_of f s low → written (Ok tt) l' ≡ writing_of f s low l
    unfolding writing_of
    done l' on is = rw (eq-eqb (length l) (whole_size f) h, ← e, on, is)

    -- the allocator's bytes were lent and written, and then the register's
    pub both-written : t ≡ true → (k : ℕ) → memory_at + k ≡ length l → (m : List ℕ) → m ≡ allocator.image_of f (account s.memory low)
        → (l' : List ℕ) → l' ≡ front_bytes_lem f s.register.entries ++ memory_in (put_mid memory_at k l m) → written (Ok tt) l' ≡ writing_of f s low l
    unfolding image_of
    both-written on k room m is l' now = done l' on (part_placed f l l' m s.register.entries k h room now ∙ ap (λ (x : List ℕ). bytes_of_lem f (both x s.register.entries)) is)

-- ---- reading

module _ (f : Layout) (l : List ℕ) where
  pub not-headed : headed f l ≡ false → refused f ≡ reading_of f l
  unfolding reading_of readable
  not-headed off = rw off

  module _ (on : headed f l ≡ true) where
    pub no-memory : ((memory_read f l).number ≡ 0 → ⊥) → refused f ≡ reading_of f l
    unfolding reading_of readable
    no-memory off = rw (on, ne_eqb (memory_read f l).number 0 off)

    pub memory-read : (memory_read f l).number ≡ 0 → judged f (memory_read f l).state (register_in_lem l) ≡ reading_of f l
    unfolding reading_of readable
    memory-read is = rw (on, eq-eqb (memory_read f l).number 0 is)

module _ (f : Layout) (a : Account) (r : List Entry) (t : Bool) (e : t ≡ is_sound_lem f.records (state_of a r)) where
  pub judged-sound : t ≡ true → accepted (state_of a r) a.lowest ≡ judged f a r
  judged-sound on = rw (← e, on)

  pub judged-unsound : t ≡ false → refused f ≡ judged f a r
  judged-unsound off = rw (← e, off)

-- what was told of the allocator's part, lent to its end, decides
module _ (l : List ℕ) (on : headed current l ≡ true) (k : ImageAnswer) (a : Account) (told : reads.handed k a ≡ reads.reading_any (take (length l - memory_at) (memory_in l))) where
  memory-told : reads.handed k a ≡ memory_read current l
  memory-told =
      let n = headed-size current l on in
      let d = length-drop memory_at l in
      told ∙ ap reads.reading_any (part_to_end l memory_at) ∙ current-read (memory_in l) (omega arith)

  number-told : number_of k ≡ (memory_read current l).number
  number-told = ap (λ (h : reads.Handed). h.number) memory-told

  pub part-read : k ≡ (Ok tt) → (r : List Entry) → r ≡ register_in_lem l → (h : Handed) → h ≡ judged current a r → h ≡ reading_of current l
  part-read is r er h eh = let m = memory-told in eh ∙ (λ i. judged current (m i).state (er i)) ∙ memory-read current l on (sym number-told ∙ ap number_of is)

  pub part-refused : k ≡ (Err invalid) → (h : Handed) → h ≡ refused current → h ≡ reading_of current l
  part-refused is h eh = eh ∙ no-memory current l on (λ e. let n = number-told in let v : number_of k ≡ 2 = ap number_of is in omega arith)
