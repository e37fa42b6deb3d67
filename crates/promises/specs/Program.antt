-- What is determined by the parts of the script program whose contracts allow more than one result: how much of a chunk they hear, and what lies in the carry
-- and in the output behind what they say, they leave open. n is the number of records. Assumes nothing.
use Rattle.std.specs.Prelude.{ℕ, true, List, ◌≡◌, take}
use Rattle.script_forms.specs.Forms.{Desk}
use Rattle.script_chunks.specs.Input.{Told, Shows, Hears, Closes}
use Rattle.script_chunks.specs.declared.Reading.{Reading}
use Rattle.script_sessions.specs.Sessions.{Run}
use Rattle.script_sessions.specs.declared.Session.{Session}

-- the state with the forms of the lines, the bytes that are held, and the text
pub record Alike (s : Desk) (r : Reading) (carry out : List ℕ) (s' : Desk) (r' : Reading) (carry' out' : List ℕ) : Type 0 where
  pub state : s ≡ s'
  pub held : take r.held carry ≡ take r'.held carry'
  pub text : take r.at out ≡ take r'.at out'

pub record ProgramDetermined (n : ℕ) : Type 0 where
  -- two results that end at the same place of the chunk, of a reading that something was told of
  pub heard-alike : (t : Told) (m : Desk) (r : Reading) (carry chunk out : List ℕ)
      (m' : Desk) (x : Reading) (carry' out' : List ℕ) (m'' : Desk) (y : Reading) (carry'' out'' : List ℕ)
      → Shows t m r carry out → Hears n m r carry chunk out m' x carry' out' → Hears n m r carry chunk out m'' y carry'' out'' → x.from ≡ y.from → Alike m' x carry' out' m'' y carry'' out''
  -- two results at the end of the input: the state and the text
  pub closed-alike : (t : Told) (m : Desk) (r : Reading) (carry out : List ℕ) (m' : Desk) (at : ℕ) (out' : List ℕ) (m'' : Desk) (at' : ℕ) (out'' : List ℕ)
      → Shows t m r carry out → Closes n m r carry out m' at out' → Closes n m r carry out m'' at' out'' → (m' ≡ m'') × (take at out' ≡ take at' out'')
  -- two runs that read the same, to its end: all that was handed to the writer
  pub runs-alike : (read handed handed' : List ℕ) (k : ℕ) (m : Desk) (s : Session) (carry chunk out : List ℕ) (k' : ℕ) (m' : Desk) (s' : Session) (carry' chunk' out' : List ℕ)
      → Run n k read handed m s carry chunk out → Run n k' read handed' m' s' carry' chunk' out' → s.ended ≡ true → s'.ended ≡ true → handed ≡ handed'
