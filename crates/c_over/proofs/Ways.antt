-- What the definitions give on each way through the call that begins an image. Assumes nothing.
use Prim.Native.Nat.{ℕ}
use mathlib.Core.List.{List}
use mathlib.Core.Path.{◌≡◌}
use lib.IntN.{pos}
use lib.ListN.{length}
use borrow.Author.Tests.{eq-eqb, ne_eqb}
use Rattle.std.specs.Prelude.{Err}
use Rattle.account_state.specs.Account.{opened}
use Rattle.calls.specs.Calls.{signed_of}
use Rattle.calls.specs.declared.MemoryError.TheVariants.{InvalidEntry}
use Rattle.image_parts.specs.Layout.{Layout, image_size_lem}
use Rattle.image_writing.specs.Writing.{image_of}
use Rattle.c_over.specs.CCalls.{returned, finished, new_over, over}

module _ (f : Layout) (l : List ℕ) where
  pub no_room : (length l ≡ image_size_lem f → ⊥) → returned (signed_of (Err InvalidEntry)) l ≡ new_over f l
  unfolding new_over over
  no_room h = rw (ne_eqb (length l) (image_size_lem f) h)

  pub new-done : length l ≡ image_size_lem f → (l' : List ℕ) → l' ≡ image_of f (opened f.records) → returned (pos 0) l' ≡ new_over f l
  unfolding new_over over finished
  new-done h l' e = rw (eq-eqb (length l) (image_size_lem f) h, e)
