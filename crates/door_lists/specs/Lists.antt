-- What lists of calls on a state of one's own, and imports and exports of it, answer and leave. n is the number of records, f the layout of an image. Assumes nothing.
use Rattle.std.specs.Prelude.{ℕ, cond, List, ◌≡◌, eqb, ℤ, pos, neg_ℤ, length, Ok, Err}
use Rattle.account_state.specs.declared.Account.{Account}
use Rattle.account_state.specs.declared.Entered.{Entered}
use Rattle.calls.specs.Calls.{signed_of}
use Rattle.calls.specs.declared.MemoryError.TheVariants.{InvalidEntry}
use Rattle.batch.specs.Lists.{list_served, answered}
use Rattle.door_fields.specs.Fields.{is_sized_lem}
use Rattle.image_parts.specs.Layout.{Layout}
use Rattle.image.specs.Reading.{reading_of}
use Rattle.image.specs.Writing.{writing_of}

-- a list l of calls with k places does what it does to an account by value (`Lists.antt` of batch); arrays that cannot be lent are no sound account
unfoldable pub listed_here_lem : ℕ → Account → List ℕ → ℕ → Entered
listed_here_lem n s l k = cond (is_sized_lem n s.ranges) (list_served n s l k) (record { answer = Err InvalidEntry; state = s })

unfoldable pub answered_here : ℕ → Account → List ℕ → List ℤ → List ℤ
answered_here n s l old = cond (is_sized_lem n s.ranges) (answered n s l old) old

-- r is what the list is answered, s' the account that it leaves, and the places hold the answers
pub record Lists (n : ℕ) (s : Account) (l : List ℕ) (old : List ℤ) (r : ℤ) (s' : Account) (now : List ℤ) : Type 0 where
  pub number : r ≡ signed_of (listed_here_lem n s l (length old)).answer
  pub state : s' ≡ (listed_here_lem n s l (length old)).state
  pub answers : now ≡ answered_here n s l old

-- the account that the image l holds; where it holds none, InvalidEntry and the account as it was
unfoldable pub imported : Layout → List ℕ → Account → Entered
imported f l s = cond (eqb (reading_of f l).number 0) (record { answer = Ok (record { 0 = 0 }); state = (reading_of f l).state }) (record { answer = Err InvalidEntry; state = s })

pub record Imports (f : Layout) (l : List ℕ) (r : ℤ) (s s' : Account) : Type 0 where
  pub number : r ≡ signed_of (imported f l s).answer
  pub state : s' ≡ (imported f l s).state

-- what writing the image over the bytes l answers, as a signed number, and the bytes that it leaves
pub record Exports (f : Layout) (s : Account) (l : List ℕ) (r : ℤ) (l' : List ℕ) : Type 0 where
  pub number : r ≡ neg_ℤ (pos (writing_of f s l).number)
  pub bytes : l' ≡ (writing_of f s l).bytes
