-- The input of the script, byte by byte. n is the number of records. Assumes nothing.
use Rattle.std.specs.Prelude.{ℕ, ◌+◌, ◌-◌, ◌<◌, ◌≤◌, true, cond, List, [], ◌∷◌, ◌++◌, ◌≡◌, eqb, length, take, drop}
use Rattle.pool_state.specs.Lent.{Lent, was, is, OfLent}
use Rattle.script_answers.specs.Script.{roomy}
use Rattle.script_forms.specs.Forms.{Desk, says, leaves, turns_desk}
use Rattle.script_chunks.specs.declared.Reading.{Reading}

-- the forms of the lines and the state, the bytes of the line that has not ended, and all that was printed
pub record Told : Type 0 where
  pub state : Desk
  pub part : List ℕ
  pub text : List ℕ

-- the line has ended, and is answered
unfoldable pub ends : ℕ → Told → Told
ends n t = record { state = leaves n t.state t.part; part = []; text = t.text ++ says n t.state t.part }

unfoldable pub joined : Told → List ℕ → Told
joined t l = record { state = t.state; part = t.part ++ l; text = t.text }

-- a newline, 10, ends the line; any other byte belongs to it
unfoldable pub heard : ℕ → Told → List ℕ → Told
heard n t [] = t
heard n t (b ∷ l) = heard n (cond (eqb b 10) (ends n t) (joined t (b ∷ []))) l

-- the last newline may be absent
unfoldable pub closed : ℕ → Told → List ℕ → Told
closed n t [] = t
closed n t (b ∷ l) = ends n t

abbrev pub silent : Desk → Told
silent s = record { state = s; part = []; text = [] }

-- what was told, and all that was printed, once the input has ended
abbrev pub told_of_all : ℕ → Told → Told
told_of_all n t = closed n t t.part

abbrev pub text_of_all : ℕ → Told → List ℕ
text_of_all n t = (told_of_all n t).text

-- ---- what the arrays hold

-- no call is longer than 80 bytes, so this much of a line tells whether it is one
abbrev pub kept : ℕ
kept = 81

abbrev pub between : ℕ → ℕ → List ℕ → List ℕ
between from to l = take (to - from) (drop from l)

-- the bytes l, or as many of them as the carry has places
pub record Holds (l carry : List ℕ) (held : ℕ) : Type 0 where
  pub within : held ≤ length carry
  pub bytes : take held carry ≡ take (length carry) l

-- the bytes l join those that are held
pub record Joins (l carry : List ℕ) (held : ℕ) (carry' : List ℕ) (r : ℕ) : Type 0 where
  pub size : length carry' ≡ length carry
  pub within : r ≤ length carry
  pub bytes : take r carry' ≡ take (length carry) (take held carry ++ l)

-- what was told: the state s, the line in the carry, and the text in the first places of the output
pub record Shows (t : Told) (s : Desk) (r : Reading) (carry out : List ℕ) : Type 0 where
  pub state : s ≡ t.state
  pub part : Holds t.part carry r.held
  pub room : r.at ≤ length out
  pub text : take r.at out ≡ t.text

-- ---- the steps

-- the carry is long enough, and the output has room for any answer
pub record Ready (n : ℕ) (r : Reading) (carry out : List ℕ) : Type 0 where
  pub carries : kept ≤ length carry
  pub held : r.held ≤ length carry
  pub room : roomy n out r.at ≡ true

-- the bytes l, up to the place `to` of the chunk, end no line
pub record Rests (l : List ℕ) (to : ℕ) (r : Reading) (carry : List ℕ) (r' : Reading) (carry' : List ℕ) : Type 0 where
  pub joins : Joins l carry r.held carry' r'.held
  pub place : r'.from ≡ to
  pub at : r'.at ≡ r.at

-- the chunk is heard up to the place `to`, which makes u of what was told
pub record Steps (u : Told → Told) (to : ℕ) (s : Desk) (r : Reading) (carry out : List ℕ) (s' : Desk) (r' : Reading) (carry' out' : List ℕ) : Type 0 where
  pub place : r'.from ≡ to
  pub size : length carry' ≡ length carry
  pub held : r'.held ≤ length carry
  pub room : r'.at ≤ length out
  pub shows : (t : Told) → Shows t s r carry out → Shows (u t) s' r' carry' out'

-- a part of the chunk is heard, and not nothing
pub record Hears (n : ℕ) (s : Desk) (r : Reading) (carry chunk out : List ℕ) (s' : Desk) (r' : Reading) (carry' out' : List ℕ) : Type 0 where
  pub onward : r.from < r'.from
  pub within : r'.from ≤ length chunk
  pub steps : Steps (λ (t : Told). heard n t (between r.from r'.from chunk)) r'.from s r carry out s' r' carry' out'

-- the input is at its end
pub record Closes (n : ℕ) (s : Desk) (r : Reading) (carry out : List ℕ) (s' : Desk) (at : ℕ) (out' : List ℕ) : Type 0 where
  pub room : at ≤ length out
  pub state : (t : Told) → Shows t s r carry out → s' ≡ (told_of_all n t).state
  pub text : (t : Told) → Shows t s r carry out → take at out' ≡ text_of_all n t

-- ---- the same of the ten fields that are lent, the forms, and the words of the register

abbrev pub StepsIn : (Told → Told) → ℕ → Reading → Lent (List ℕ) → Lent (List ℕ) → Reading → Lent ℕ → Lent (List ℕ) → OfLent
StepsIn u to r carry out r' = turns_desk (λ s s'. Steps u to s r (was carry) (was out) s' r' (is carry) (is out))

abbrev pub HearsIn : ℕ → Reading → Lent (List ℕ) → List ℕ → Lent (List ℕ) → Reading → Lent ℕ → Lent (List ℕ) → OfLent
HearsIn n r carry chunk out r' = turns_desk (λ s s'. Hears n s r (was carry) chunk (was out) s' r' (is carry) (is out))

abbrev pub ClosesIn : ℕ → Reading → List ℕ → Lent (List ℕ) → ℕ → Lent ℕ → Lent (List ℕ) → OfLent
ClosesIn n r carry out at = turns_desk (λ s s'. Closes n s r carry (was out) s' at (is out))
