-- What a sound account shows of itself. n is the number of records. Assumes nothing.
use Prim.Native.Nat.{ℕ, ◌≤◌}
use mathlib.Core.Bool.{true, false}
use mathlib.Core.Path.{◌≡◌, ap, ◌∙◌}
use Rattle.linked_lists.specs.Links.{none}
use Rattle.pool_state.proofs.Book.{sound-holds}
use Rattle.check_meaning.specs.Paragraph.{Sized}
use Rattle.calls.specs.declared.MemoryError.TheVariants.{InvalidEntry}
use Rattle.core_accounts.specs.Accounts.{counted, refused}
use Rattle.account_state.specs.Account.{is_sound_lem}
use Rattle.account_state.specs.declared.Account.{Account}
use Rattle.account_state.proofs.Exact.{passes-sound}
use Rattle.account_calls.specs.Accounts.{total_of, lowest_of}

module _ (n : ℕ) (a : Account) where
  pub total-sound : n ≤ none → Sized n a.ranges → is_sound_lem n a ≡ true → counted a.ranges.free_size ≡ total_of n a
  unfolding total_of
  total-sound small z e = rw e (ap counted (sound-holds n a.ranges (passes-sound n small a z e).ranges).counts)

  pub total-unsound : is_sound_lem n a ≡ false → refused InvalidEntry ≡ total_of n a
  unfolding total_of
  total-unsound e = rw e

  pub lowest-sound : is_sound_lem n a ≡ true → counted a.lowest ≡ lowest_of n a
  unfolding lowest_of
  lowest-sound e = rw e

  pub lowest-unsound : is_sound_lem n a ≡ false → refused InvalidEntry ≡ lowest_of n a
  unfolding lowest_of
  lowest-unsound e = rw e
