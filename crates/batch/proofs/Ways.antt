-- What the definitions give on each way through the code. n is the number of records. Assumes nothing.
use Prim.Native.Nat.{ℕ, ◌/◌, ◌%◌}
use mathlib.Core.Bool.{true, false}
use mathlib.Core.List.{List}
use mathlib.Core.Path.{◌≡◌}
use lib.Dec.{leb}
use lib.IntN.{ℤ}
use lib.ListN.{length}
use borrow.Author.Tests.{eq-eqb, ne_eqb}
use Rattle.std.specs.Prelude.{Ok, Err}
use Rattle.account_state.specs.declared.Account.{Account}
use Rattle.account_state.specs.Account.{is_sound_lem}
use Rattle.calls.specs.declared.MemoryError.TheVariants.{InvalidEntry, InvalidRequest}
use Rattle.batch.specs.Lists.{fitted, list_served, answered, Served, Serves}
use Rattle.batch.proofs.InWords.{asked-length, whole_length}

module _ (l : List ℕ) (m : ℕ) where
  pub part-of-a-call : (length l % 4 ≡ 0 → ⊥) → fitted l m ≡ false
  part-of-a-call d = rw (whole_length l, ne_eqb _ _ d)

  pub fits_by : length l % 4 ≡ 0 → leb (length l / 4) m ≡ fitted l m
  fits_by e = rw (whole_length l, eq-eqb _ _ e, asked-length l)

module _ (n : ℕ) (s : Account) (l : List ℕ) (old : List ℤ) where
  pub unsound : is_sound_lem n s ≡ false → Serves n s l old (record { answer = Err InvalidEntry; state = s }) old
  unfolding list_served answered
  unsound e = record { outcome = rw e; answers = rw e }

  module _ (e : is_sound_lem n s ≡ true) where
    pub unfitted : fitted l (length old) ≡ false → Serves n s l old (record { answer = Err InvalidRequest; state = s }) old
    unfolding list_served answered
    unfitted f = record { outcome = rw (e, f); answers = rw (e, f) }

    pub done : (s' : Account) (now : List ℤ) → fitted l (length old) ≡ true → Served n s l old s' now → Serves n s l old (record { answer = Ok (record { 0 = 0 }); state = s' }) now
    unfolding list_served answered
    done s' now f h = record { outcome = rw (e, f, h.state); answers = rw (e, f) h.answers }
