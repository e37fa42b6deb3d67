-- What a sound state shows of its book. Assumes nothing.
use Prim.Native.Nat.{ℕ, ◌≤◌}
use mathlib.Core.Bool.{true, false}
use mathlib.Core.List.{List}
use Rattle.std.specs.Prelude.{Option}
use mathlib.Core.Path.{◌≡◌, ap, ◌∙◌}
use Rattle.linked_lists.specs.Links.{none}
use Rattle.pool_state.specs.Sound.{book_of}
use Rattle.pool_state.specs.declared.MemoryAllocator.{MemoryAllocator}
use Rattle.pool_state.proofs.Book.{sound-holds}
use Rattle.check_state.specs.IsSound.{is_sound_lem}
use Rattle.check_meaning.specs.Paragraph.{Sized}
use Rattle.check_meaning.proofs.Exact.{passes-sound}
use Rattle.pool_chain.specs.Chain.{Ordered}
use Rattle.pool_listing.specs.Listing as in_place
use Rattle.calls.specs.declared.MemoryError.TheVariants.{InvalidEntry}
use Rattle.pool_chain.proofs.Held.{chain-ordered}
use Rattle.core_accounts.specs.Accounts.{counted, refused, total_of, listed_answer, listing_of, shown_of, Lists}
use Rattle.calls.specs.Calls.{Counted}

module _ (n : ℕ) (small : n ≤ none) (s : MemoryAllocator) where
  pub ordered : Sized n s → is_sound_lem n s ≡ true → Ordered n (book_of n s).chain s.start s.end s.next s.first_entry.0
  ordered z e = chain-ordered n (book_of n s) s (sound-holds n s (passes-sound n small s z e))

  pub total-sound : Sized n s → is_sound_lem n s ≡ true → counted s.free_size ≡ total_of n s
  unfolding total_of
  total-sound z e = rw e (ap counted (sound-holds n s (passes-sound n small s z e)).counts)

  pub total-unsound : is_sound_lem n s ≡ false → refused InvalidEntry ≡ total_of n s
  unfolding total_of
  total-unsound e = rw e

  pub unsound-lists : (starts lasts : List ℕ) → is_sound_lem n s ≡ false → Lists n s starts lasts (refused InvalidEntry) starts lasts
  unfolding listing_of shown_of
  unsound-lists starts lasts e = record { answer = rw e; starts-now = rw e; lasts_now = rw e }

  pub sound-lists : (starts lasts starts' lasts' : List ℕ) (k : Option ℕ) (r : Counted) → is_sound_lem n s ≡ true → in_place.Lists (book_of n s).chain starts lasts k starts' lasts' → r ≡ listed_answer k → Lists n s starts lasts r starts' lasts'
  unfolding listing_of shown_of
  sound-lists starts lasts starts' lasts' k r e l q = record {
    answer = q ∙ ap listed_answer l.answer ∙ rw e;
    starts-now = rw e l.starts-now;
    lasts_now = rw e l.lasts_now;
  }
