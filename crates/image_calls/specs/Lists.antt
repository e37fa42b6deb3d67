-- What a list of calls over an image returns, every byte of the image that it leaves, and every place of the answers. Assumes nothing.
use Rattle.std.specs.Prelude.{ℕ, Bool, true, cond, List, ◌≡◌, eqb, ℤ, length, Err}
use Rattle.std.specs.Borrow.{MutBor}
use Rattle.account_state.specs.Lent.{OfEleven, eleven}
use Rattle.account_state.specs.declared.Account.{Account}
use Rattle.account_state.specs.declared.Entered.{Entered}
use Rattle.calls.specs.Calls.{is_accepted, signed_of}
use Rattle.calls.specs.declared.MemoryError.TheVariants.{InvalidEntry}
use Rattle.batch.specs.Lists.{list_served, answered}
use Rattle.image_parts.specs.Layout.{Layout}
use Rattle.image_writing.specs.Writing.{image_of}
use Rattle.image_reading.specs.Reading.{account_in, readable}
use Rattle.image.specs.Reading.{reading_of}

-- what a call returns, and the image that it leaves
pub record Returned : Type 0 where
  pub number : ℤ
  pub bytes : List ℕ

abbrev pub returned : ℤ → List ℕ → Returned
returned i l = record { number = i; bytes = l }

-- the image of the account that an accepted call leaves; a refusal changes no byte
unfoldable pub finished : Layout → Entered → List ℕ → Returned
finished f r l = returned (signed_of r.answer) (cond (is_accepted r.answer) (image_of f r.state) l)

-- InvalidEntry, unless the image serves
unfoldable pub over : Layout → Bool → Entered → List ℕ → Returned
over f serves r l = cond serves (finished f r l) (returned (signed_of (Err InvalidEntry)) l)

-- a list of calls, with so many places, on the account whose image this is
unfoldable pub list_over_lem : Layout → List ℕ → ℕ → List ℕ → Returned
list_over_lem f calls places l = over f (eqb (reading_of f l).number 0) (list_served f.records (reading_of f l).state calls places) l

-- the places after it: as they were, where the image does not serve
unfoldable pub answers_over : Layout → List ℕ → List ℤ → List ℕ → List ℤ
answers_over f calls old l = cond (eqb (reading_of f l).number 0) (answered f.records (reading_of f l).state calls old) old

-- r is returned, and the image and the places hold what they must
pub record BatchOver (f : Layout) (l calls : List ℕ) (old : List ℤ) (r : ℤ) (l' : List ℕ) (now : List ℤ) : Type 0 where
  pub image-now : returned r l' ≡ list_over_lem f calls (length old) l
  pub answers-now : now ≡ answers_over f calls old l

-- a is the account whose image this is
pub record Held (f : Layout) (l : List ℕ) (a : Account) : Type 0 where
  pub serves : readable f l ≡ true
  pub state : a ≡ account_in f l

-- so are the eleven fields that are lent
abbrev pub HeldIn : Layout → MutBor (List ℕ) → OfEleven
HeldIn f image = eleven (Held f image.now)
