-- The unused records of a sound state have the same bytes in every image. Assumes nothing.
use mathlib.Core.Path.{◌≡◌, sym, ◌∙◌, ap}
use mathlib.Core.Bool.{true, false}
use mathlib.Core.List.{List}
use mathlib.Core.Logic.{◌≢◌}
use Prim.Native.Nat.{ℕ, ◌+◌, ◌*◌, ◌<◌}
use native.Mathlib.Omega.{arith}
use lib.ListN.{get_or}
use borrow.Author.Tests.{ne_eqb}
use Rattle.pool_state.specs.Sound.{SoundState}
use Rattle.pool_state.specs.declared.MemoryAllocator.{MemoryAllocator}
use Rattle.pool_state.proofs.States.{at-tab}
use Rattle.check_meaning.specs.Paragraph.{Fresh}
use Rattle.check_meaning.proofs.Exact.{paragraph}
use Rattle.account_state.proofs.Exact.{passes-sound}
use Rattle.bytes_be.specs.Numbers.{Bytes}
use Rattle.image_parts.specs.Layout.{Layout, Lawful, records_at_lem, enabled_at, record_size_lem}
use Rattle.image_parts.specs.Read.{flags_in}
use Rattle.image_parts.specs.Written.{record_bytes}
use Rattle.image_parts.specs.declared.records.MemoryEntry.{MemoryEntry}
use Rattle.image_parts.proofs.Lawful.{small-pool}
use Rattle.image_parts.proofs.Loops.{both}
use Rattle.image_writing.specs.Writing.{entry_at_lem, flag_in, Standing}
use Rattle.image_reading.specs.Reading.{state_in_lem, account_in, framed, readable}
use Rattle.image_records.proofs.Decoding.{flag-here}
use Rattle.image_reading.proofs.Whole.{state-sized}
use Rattle.image.proofs.Ways.{framed-frame}
use Rattle.image.proofs.WriteBack.{record-again}

-- two unused records of sound states are one
same-entry : (s s' : MemoryAllocator) (i : ℕ) → Fresh s i → Fresh s' i → get_or s.enabled i false ≡ false → get_or s'.enabled i false ≡ false → entry_at_lem s i ≡ entry_at_lem s' i
same-entry s s' i a b e e' =
    let starts = a.start ∙ sym b.start in
    let ends = a.end ∙ sym b.end in
    let off = e ∙ sym e' in
    let previous = a.previous ∙ sym b.previous in
    let next = a.next ∙ sym b.next in
    let lprev = a.list_prev ∙ sym b.list_prev in
    let lnext = a.list_next ∙ sym b.list_next in
    (λ z. record {
      start = record { 0 = starts z };
      end = record { 0 = ends z };
      enabled = off z;
      previous = record { 0 = previous z };
      next = record { 0 = next z };
      list_prev = record { 0 = lprev z };
      list_next = record { 0 = lnext z };
    })

module _ (f : Layout) (lawful : Lawful f) (l : List ℕ) (bytes : Bytes l) (serves : readable f l ≡ true) where
  abbrev n : ℕ
  n = f.records

  held : (framed f l ≡ true) × SoundState n (state_in_lem f l)
  held = let p = both (framed f l) _ serves in (p.0, (passes-sound n (small-pool f lawful) (account_in f l) (state-sized f l) p.1).ranges)

  fresh_in : (s : MemoryAllocator) → SoundState n s → (i : ℕ) → i < n → get_or s.enabled i false ≡ false → Fresh s i
  fresh_in s sound i b off = ((paragraph n (small-pool f lawful) s).0 sound).unused i b off

  unmarked : (i : ℕ) → i < n → flag_in f l i ≢ 1 → get_or (state_in_lem f l).enabled i false ≡ false
  unfolding state_in_lem flags_in
  unmarked i b h = at-tab false n _ i b ∙ ne_eqb _ 1 (λ e. h (flag-here f l i ∙ e))

  -- a record that is unused in the image and in a sound state has the bytes of the image in the image of that state
  pub stands : (s : MemoryAllocator) → SoundState n s → Standing f n l (entry_at_lem s)
  stands s sound i b off flag =
      let was = unmarked i b flag in
      sym (record-again f lawful l bytes (framed-frame f l held.0) i b)
      ∙ ap (record_bytes f) (same-entry (state_in_lem f l) s i (fresh_in (state_in_lem f l) held.1 i b was) (fresh_in s sound i b off) was off)
