-- The call that begins an image. Assumes nothing.
use Prim.Native.Nat.{ℕ, ◌+◌, ◌-◌}
use mathlib.Core.List.{List, ◌++◌}
use mathlib.Core.Path.{◌≡◌, sym, ap, ◌∙◌}
use native.Mathlib.Omega.{arith}
use lib.IntN.{pos}
use lib.ListN.{length, length-drop}
use borrow.Author.Tests.{eq-eqb, ne_eqb}
use borrow.Rule.Slice.PartMut.{put_mid}
use Rattle.std.specs.Prelude.{Err}
use Rattle.account_state.specs.Account.{opened}
use Rattle.calls.specs.Calls.{signed_of}
use Rattle.calls.specs.declared.MemoryError.TheVariants.{InvalidEntry}
use Rattle.image_parts.specs.Layout.{Layout, Figured, image_size_lem}
use Rattle.image_writing.specs.Writing.{image_of}
use Rattle.c_over.specs.CCalls as allocator
use Rattle.c_over.specs.CCalls.{Returned, returned}
use Rattle.c_over.proofs.Demand.{new-written}
use Rattle.holder_rules.specs.Register.{entries, blanks}
use Rattle.holder_rules.specs.Holders.{both}
use Rattle.holder_rules.specs.declared.Entry.{Entry}
use Rattle.holder_image.specs.Layout.{memory_at, whole_size}
use Rattle.holder_image.specs.Bytes.{front_bytes_lem, bytes_of_lem, memory_in}
use Rattle.holder_image.proofs.Parts.{part_placed}
use Rattle.holder_calls.specs.Calls.{new_over}

module _ (f : Layout) (full : Figured f) (l : List ℕ) where
  pub no_room : (length l ≡ whole_size f → ⊥) → returned (signed_of (Err InvalidEntry)) l ≡ new_over f l
  unfolding new_over
  no_room h = rw (ne_eqb (length l) (whole_size f) h)

  pub new-done : length l ≡ whole_size f → (k : ℕ) → memory_at + k ≡ length l → (y : List ℕ) → y ≡ image_of f (opened f.records) → (r : List Entry) → r ≡ blanks entries
      → (l' : List ℕ) → l' ≡ front_bytes_lem f r ++ memory_in (put_mid memory_at k l y) → returned (pos 0) l' ≡ new_over f l
  unfolding new_over
  new-done h k a y e r g l' d =
      let s : length (memory_in l) ≡ image_size_lem f = length-drop memory_at l ∙ (let v : length l - memory_at ≡ image_size_lem f = omega arith in v) in
      let w : y ≡ (allocator.new_over f (memory_in l)).bytes = e ∙ ap (λ (x : Returned). x.bytes) (sym (new-written f full (memory_in l) s)) in
      let b = part_placed f l l' y r k h a d in
      rw (eq-eqb (length l) (whole_size f) h) (ap (λ (x : List ℕ). returned (pos 0) x) (b ∙ (λ j. bytes_of_lem f (both (w j) (g j)))))
