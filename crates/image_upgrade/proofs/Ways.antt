-- What the definition gives on each way through the code. Assumes nothing.
use Rattle.std.specs.Prelude.{Ok, Err}
use mathlib.Core.Path.{◌≡◌, refl, sym, ◌∙◌, ap}
use mathlib.Core.Bool.{Bool, true, false}
use mathlib.Core.List.{List}
use Prim.Native.Nat.{ℕ}
use lib.ListN.{length}
use borrow.Author.Tests.{eq-eqb, ne_eqb}
use Rattle.pool_state.specs.Shown.{pool}
use Rattle.account_state.specs.declared.Account.{Account}
use Rattle.image_parts.specs.Layout.{Layout, current, image_size_lem}
use Rattle.image_writing.specs.Writing.{image_of}
use Rattle.image_reading.specs.Reading.{ReadsAccount}
use Rattle.image.specs.Writing.{written, invalid}
use Rattle.image.specs.Reading.{layout_in}
use Rattle.image.proofs.Ways.{any-unread, any-read}
use Rattle.image_upgrade.specs.Upgrades.{upgrading_of}

module _ (old l : List ℕ) where
  pub another-length : (length l ≡ image_size_lem current → ⊥) → written (Err invalid) l ≡ upgrading_of old l
  unfolding upgrading_of
  another-length h = rw (ne_eqb (length l) (image_size_lem current) h)

  module _ (h : length l ≡ image_size_lem current) (r : Bool) (a : Account) (read : ReadsAccount pool (layout_in old) old r a) where
    pub no-image : r ≡ false → written (Err invalid) l ≡ upgrading_of old l
    unfolding upgrading_of
    no-image off = rw (eq-eqb (length l) (image_size_lem current) h, ← any-unread old r read.told off)

    pub written-anew : r ≡ true → (l' : List ℕ) → l' ≡ image_of current a → written (Ok tt) l' ≡ upgrading_of old l
    unfolding upgrading_of
    written-anew on l' e = rw (eq-eqb (length l) (image_size_lem current) h, ← any-read old r read.told on a (read.state on), e)
