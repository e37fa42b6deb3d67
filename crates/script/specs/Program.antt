-- What the program promises of the turns it takes. Assumes nothing.
use Rattle.std.specs.Prelude.{ℕ, Bool, false, List, ◌≡◌, ◌⊎◌}
use Rattle.pool_state.specs.Lent.{Lent, was, is, OfLent}
use Rattle.script_forms.specs.Forms.{Desk, turns_desk}
use Rattle.script_chunks.specs.declared.Reading.{Reading}
use Rattle.script_sessions.specs.Sessions.{goes_on_lem, HandsOver, Answered, Closed, Turned, Run}
use Rattle.script_sessions.specs.declared.Session.{Session}

-- the text of the reading r was handed to the writer
pub record Handed (r : Reading) (k : ℕ) (e : Bool) (s : Session) : Type 0 where
  pub reading : s.reading ≡ r
  pub hands : HandsOver s
  pub count : s.count ≡ k
  pub ended : s.ended ≡ e

-- a turn, of the ten fields that are lent, the forms, and the words of the register
abbrev pub AnsweredIn : ℕ → Session → Lent (List ℕ) → List ℕ → Lent (List ℕ) → Session → Lent ℕ → Lent (List ℕ) → OfLent
AnsweredIn n s carry chunk out s' = turns_desk (λ m m'. Answered n m s (was carry) chunk (was out) m' s' (is carry) (is out))

abbrev pub ClosedIn : ℕ → Session → List ℕ → Lent (List ℕ) → Session → Lent ℕ → Lent (List ℕ) → OfLent
ClosedIn n s carry out s' = turns_desk (λ m m'. Closed n m s carry (was out) m' s' (is out))

abbrev pub TurnedIn : ℕ → Session → Lent (List ℕ) → Lent (List ℕ) → Lent (List ℕ) → Session → Lent ℕ → Lent (List ℕ) → OfLent
TurnedIn n s carry chunk out s' = turns_desk (λ m m'. Turned n m s (was carry) (was chunk) (was out) m' s' (is carry) (is chunk) (is out))

-- 2^64 - 1: more turns than any run takes
abbrev pub enough : ℕ
enough = 18446744073709551615

-- turns were taken from the beginning on, until the input had ended or a read or a write had failed
pub record Over (n : ℕ) (s : Session) (carry chunk out : List ℕ) : Type 0 where
  pub taken : ℕ
  pub read : List ℕ
  pub handed : List ℕ
  pub state : Desk
  pub run : Run n taken read handed state s carry chunk out
  pub over : (goes_on_lem s ≡ false) ⊎ (taken ≡ enough)
