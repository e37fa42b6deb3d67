-- Eleven lent fields: what a kind and three numbers ask of them, and whether they are a sound account. n is the number of records. Assumes nothing.
use Rattle.std.specs.Prelude.{ℕ, Bool, cond, ◌&&◌, eqb, length, Some}
use Rattle.rules.specs.Rules.{size_lists}
use Rattle.pool_state.specs.declared.MemoryAllocator.{MemoryAllocator}
use Rattle.account_state.specs.Account.{is_sound_lem}
use Rattle.account_state.specs.declared.Account.{Account}
use Rattle.calls.specs.declared.Request.TheVariants.{Allocate, Free}
use Rattle.pages.specs.Pages.{bytes_of_lem, raised, freed_bytes_lem}
use Rattle.batch.specs.InWords.{asked_of, Asked}

-- what a kind and three numbers ask for: as in a list, and two kinds more, pages. A page call is one call, of so many bytes
unfoldable pub asked_here : ℕ → ℕ → ℕ → ℕ → Asked
asked_here kind x y z =
    cond (eqb kind 4) (Some (Allocate (bytes_of_lem x) (raised y)))
    (cond (eqb kind 5) (Some (Free (record { 0 = x }) (freed_bytes_lem x y)))
    (asked_of kind x y z))

-- the arrays have as many places as their types say: all that can be lent have
unfoldable pub is_sized_lem : ℕ → MemoryAllocator → Bool
is_sized_lem n s =
    eqb (length s.free_list) size_lists && (eqb (length s.start) n && (eqb (length s.end) n && (eqb (length s.enabled) n
    && (eqb (length s.previous) n && (eqb (length s.next) n && (eqb (length s.list_prev) n && eqb (length s.list_next) n))))))

abbrev pub sound_here : ℕ → Account → Bool
sound_here n a = is_sized_lem n a.ranges && is_sound_lem n a
