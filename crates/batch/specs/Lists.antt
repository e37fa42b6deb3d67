-- What a list of calls answers and leaves: what its calls do one by one, each on the account that the one before it left, so that the figure is noted after each. n is the number of records. Assumes nothing.
use Rattle.std.specs.Prelude.{ℕ, Bool, cond, ◌&&◌, List, [], ◌∷◌, ◌≡◌, leb, ℤ, length, Ok, Err}
use Rattle.pool_state.specs.Lent.{Lent, was, is}
use Rattle.account_state.specs.Account.{SoundAccount, is_sound_lem}
use Rattle.account_state.specs.Lent.{OfEleven, eleven, OfLentEleven, turns_eleven}
use Rattle.account_state.specs.declared.Account.{Account}
use Rattle.account_state.specs.declared.Entered.{Entered}
use Rattle.calls.specs.Calls.{signed_of}
use Rattle.calls.specs.declared.MemoryError.TheVariants.{InvalidEntry, InvalidRequest}
use Rattle.account_calls.specs.Made.{judged}
use Rattle.pool_listing.specs.Listing.{written}
use Rattle.batch.specs.InWords.{asked, whole, rule_of, Asked}

-- one of the calls: what it answers and leaves is what the call made singly does
abbrev pub served_of : ℕ → Account → Asked → Entered
served_of n s q = judged n (rule_of n q) s

-- the state after all of them
unfoldable pub left_by : ℕ → Account → List Asked → Account
left_by n s [] = s
left_by n s (q ∷ qs) = left_by n (served_of n s q).state qs

-- their answers, in order
unfoldable pub answers_of : ℕ → Account → List Asked → List ℤ
answers_of n s [] = []
answers_of n s (q ∷ qs) = signed_of (served_of n s q).answer ∷ answers_of n (served_of n s q).state qs

-- whole calls, and a place for the answer of each
abbrev pub fitted : List ℕ → ℕ → Bool
fitted l places = whole l && leb (length (asked l)) places

-- what the list itself is answered, and the state it leaves: an unsound state is InvalidEntry, then a list that does not fit is InvalidRequest
unfoldable pub list_served : ℕ → Account → List ℕ → ℕ → Entered
list_served n s l places =
    cond (is_sound_lem n s)
    (cond (fitted l places) (record { answer = Ok (record { 0 = 0 }); state = left_by n s (asked l) }) (record { answer = Err InvalidRequest; state = s }))
    (record { answer = Err InvalidEntry; state = s })

-- every place of the second slice: the answers in order, and the old contents past them, or everywhere after a refusal
unfoldable pub answered : ℕ → Account → List ℕ → List ℤ → List ℤ
answered n s l old = cond (is_sound_lem n s && fitted l (length old)) (written (answers_of n s (asked l)) old) old

-- r is what the list is answered and leaves, and the second slice holds its answers
pub record Serves (n : ℕ) (s : Account) (l : List ℕ) (old : List ℤ) (r : Entered) (now : List ℤ) : Type 0 where
  pub outcome : r ≡ list_served n s l (length old)
  pub answers : now ≡ answered n s l old

-- the same of a list that is served: r is the state that it leaves
pub record Served (n : ℕ) (s : Account) (l : List ℕ) (old : List ℤ) (r : Account) (now : List ℤ) : Type 0 where
  pub state : r ≡ left_by n s (asked l)
  pub answers : now ≡ written (answers_of n s (asked l)) old

-- the same of the eleven fields of an account that are lent
abbrev pub ServedIn : ℕ → List ℕ → Lent (List ℤ) → OfLentEleven
ServedIn n calls answers = turns_eleven (λ s s'. Served n s calls (was answers) s' (is answers))

-- the eleven fields that are lent are those of a sound account
abbrev pub SoundIn : ℕ → OfEleven
SoundIn n = eleven (SoundAccount n)
