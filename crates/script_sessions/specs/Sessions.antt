-- A session of the script, turn by turn: what was read so far determines what has been handed to the writer so far. n is the number of records, m the state with the forms of the lines. Assumes nothing.
use Rattle.std.specs.Prelude.{ℕ, suc, ◌<◌, ◌≤◌, Bool, true, false, not, cond, List, [], ◌++◌, ◌≡◌, ltb, length, take, drop}
use Rattle.script_answers.specs.Script.{room}
use Rattle.script_forms.specs.Forms.{Desk, open_desk}
use Rattle.script_chunks.specs.Input.{Told, silent, heard, told_of_all, text_of_all, kept, Holds, Hears, Closes}
use Rattle.script_chunks.specs.declared.Reading.{Reading}
use Rattle.script_sessions.specs.declared.Session.{Session}

-- at the place `from` of a chunk, with an empty output
abbrev pub fresh : Reading → ℕ → Reading
fresh r from = record { held = r.held; from = from; at = 0 }

abbrev pub begin : Session
begin = record { reading = record { held = 0; from = 0; at = 0 }; count = 0; taken = 0; ended = false; failed = false }

abbrev pub restart : Session → ℕ → Bool → Session
restart s count failed = record { reading = fresh s.reading 0; count = count; taken = 0; ended = false; failed = failed }

-- there may be more to read, and the writer took all that it was handed
abbrev pub goes_on_lem : Session → Bool
goes_on_lem s = cond s.ended false (not s.failed)

-- the arrays serve the next turn
pub record Prepared (n : ℕ) (s : Session) (carry chunk out : List ℕ) : Type 0 where
  pub carries : kept ≤ length carry
  pub held : s.reading.held ≤ length carry
  pub space : room n ≤ length out
  pub count : s.count ≤ length chunk

-- ---- a turn

-- the turn's text was handed to the writer, who took all of it, or failed
pub record HandsOver (s : Session) : Type 0 where
  pub whole : s.failed ≡ false → s.taken ≡ s.reading.at
  pub part : s.failed ≡ true → s.taken < s.reading.at

-- the next lines of the chunk are answered
pub record Answered (n : ℕ) (m : Desk) (s : Session) (carry chunk out : List ℕ) (m' : Desk) (s' : Session) (carry' out' : List ℕ) : Type 0 where
  pub hears : Hears n m (fresh s.reading s.reading.from) carry (take s.count chunk) out m' s'.reading carry' out'
  pub hands : HandsOver s'
  pub count : s'.count ≡ s.count
  pub ended : s'.ended ≡ false

-- the next bytes are in the chunk, or could not be read
pub record Took (s s' : Session) (chunk' : List ℕ) : Type 0 where
  pub reading : s'.reading ≡ fresh s.reading 0
  pub within : s'.count ≤ length chunk'
  pub some : s'.failed ≡ false → 0 < s'.count
  pub none : s'.failed ≡ true → s'.count ≡ 0
  pub ended : s'.ended ≡ false

-- the input has ended, and a line that no newline ends is answered too
pub record Closed (n : ℕ) (m : Desk) (s : Session) (carry out : List ℕ) (m' : Desk) (s' : Session) (out' : List ℕ) : Type 0 where
  pub closes : Closes n m (fresh s.reading 0) carry out m' s'.reading.at out'
  pub held : s'.reading.held ≡ 0
  pub from : s'.reading.from ≡ 0
  pub hands : HandsOver s'
  pub count : s'.count ≡ 0
  pub ended : s'.ended ≡ true

-- the whole chunk is heard before more is read
pub data Turned (n : ℕ) (m : Desk) (s : Session) (carry chunk out : List ℕ) (m' : Desk) (s' : Session) (carry' chunk' out' : List ℕ) : Type 0 where
  answered : s.reading.from < s.count → chunk' ≡ chunk → Answered n m s carry chunk out m' s' carry' out' → Turned n m s carry chunk out m' s' carry' chunk' out'
  took : s.count ≤ s.reading.from → m' ≡ m → carry' ≡ carry → Took s s' chunk' → Turned n m s carry chunk out m' s' carry' chunk' out'
  closed : s.count ≤ s.reading.from → carry' ≡ carry → Closed n m s carry out m' s' out' → Turned n m s carry chunk out m' s' carry' chunk' out'

-- ---- all turns

-- what a turn from s to s' read
abbrev pub piece : Session → Session → List ℕ → List ℕ
piece s s' chunk' = cond (ltb s.reading.from s.count) [] (take s'.count chunk')

-- k turns from the beginning, each after a turn whose text was taken whole: the bytes that were read, and those that were handed over
pub data Run (n : ℕ) : ℕ → List ℕ → List ℕ → Desk → Session → List ℕ → List ℕ → List ℕ → Type 0 where
  starts : (carry chunk out : List ℕ) → Run n 0 [] [] (open_desk n) begin carry chunk out
  turns : (k : ℕ) (read handed : List ℕ) (m : Desk) (s : Session) (carry chunk out : List ℕ) (m' : Desk) (s' : Session) (carry' chunk' out' : List ℕ)
      → Run n k read handed m s carry chunk out → goes_on_lem s ≡ true → Turned n m s carry chunk out m' s' carry' chunk' out'
      → Run n (suc k) (read ++ piece s s' chunk') (handed ++ take s'.reading.at out') m' s' carry' chunk' out'

-- ---- what was told

-- what was told of the input, but for its text, which is written as it comes
pub record Tells (t : Told) (m : Desk) (r : Reading) (carry : List ℕ) : Type 0 where
  pub state : m ≡ t.state
  pub part : Holds t.part carry r.held

-- what hearing the bytes l comes to, from the beginning
abbrev pub told_of : ℕ → List ℕ → Told
told_of n l = heard n (silent (open_desk n)) l

-- the output for the input l: document 01's, or the register's after a first line `holders`
abbrev pub output_of : ℕ → List ℕ → List ℕ
output_of n l = text_of_all n (told_of n l)

-- what was told of the bytes l; once the input has ended, with the line that no newline ends
abbrev pub told_by_lem : ℕ → Bool → List ℕ → Told
told_by_lem n ended l = cond ended (told_of_all n (told_of n l)) (told_of n l)

-- what was read and not heard yet
abbrev pub left : Session → List ℕ → List ℕ
left s chunk = drop s.reading.from (take s.count chunk)

-- of the bytes that were read those before the chunk's rest were heard, and their answers handed over; at the end, all
pub record Told-so-far (n : ℕ) (read handed : List ℕ) (m : Desk) (s : Session) (carry chunk : List ℕ) : Type 0 where
  pub heard-bytes : List ℕ
  pub reads : read ≡ heard-bytes ++ left s chunk
  pub tells : Tells (told_by_lem n s.ended heard-bytes) m s.reading carry
  pub rest : s.ended ≡ true → left s chunk ≡ []
  pub hands : handed ≡ cond s.ended (output_of n heard-bytes) (told_of n heard-bytes).text
