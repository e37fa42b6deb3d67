-- The text of a call's answer, and of the ranges in two arrays. Assumes nothing.
use Rattle.std.specs.Prelude.{ℕ, zero, suc, ◌+◌, ◌≤◌, cond, List, [], ◌++◌, eqb, length, get_or}
use Rattle.calls.specs.Calls.{Answer, number_of, address_of}
use Rattle.calls.specs.declared.Request.{Request}
use Rattle.calls.specs.declared.Request.TheVariants as asks
use Rattle.script_texts.specs.Answers.{ok_text, ok_at, no_text, range_text, list_text, Puts}

-- a call that hands out no address: `ok`, or `no` and the number
unfoldable pub moved_text : Answer → List ℕ
moved_text k = cond (eqb (number_of k) 0) ok_text (no_text (number_of k))

-- a call that hands one out: `ok` and the address, or `no` and the number
unfoldable pub placed_text : Answer → List ℕ
placed_text k = cond (eqb (number_of k) 0) (ok_at (address_of k)) (no_text (number_of k))

-- an allocate hands one out
unfoldable pub reply_text : Request → Answer → List ℕ
reply_text (asks.Allocate z o) k = placed_text k
reply_text (asks.Reserve a z o) k = moved_text k
reply_text (asks.Free a z) k = moved_text k

-- ---- the ranges of two arrays

-- the first k ranges, from their starts and last bytes
unfoldable pub rows : ℕ → List ℕ → List ℕ → List ℕ
rows zero starts lasts = []
rows (suc k) starts lasts = rows k starts lasts ++ range_text (get_or starts k 0) (get_or lasts k 0)

unfoldable pub table_text : ℕ → ℕ → List ℕ → List ℕ → List ℕ
table_text count total starts lasts = list_text count total ++ rows count starts lasts

-- ---- in a buffer

-- no line of a text is longer
abbrev pub line : ℕ
line = 48

-- the text t, which is no longer than `most`
pub record PutsWithin (most : ℕ) (t out : List ℕ) (at : ℕ) (out' : List ℕ) (r : ℕ) : Type 0 where
  pub short : length t ≤ most
  pub puts : Puts t out at out' r
