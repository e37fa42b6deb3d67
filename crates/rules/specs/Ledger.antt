-- The starred cases of document 01's ledger, as one table, with what request T-03 of document 02 changed in the first; proofs/Ledger.antt has
-- the one claim about it. The table is the section `ledger` of tests/cases.txt: `tools/cases` writes it. Assumes nothing.
use Rattle.std.specs.Prelude.{List, [], ◌∷◌, ℕ, length}
use Rattle.rules.specs.Rules.{Range, Book, total, Call, Free, Allocate, Reserve, step}

-- a line of the script: a call, or `l`
pub data Line : Type 0 where
  call : Call → Line
  l : Line

-- what a line prints: number and address; count and total, and then each range
pub record Case : Type 0 where
  pub lines : List Line
  pub prints : List (List ℕ)

unfoldable pub bounds : List Range → List ℕ
bounds [] = []
bounds (r ∷ rs) = r.start ∷ r.last ∷ bounds rs

-- what the lines print, with n records
unfoldable pub play : ℕ → Book → List Line → List (List ℕ)
play n b [] = []
play n b (call c ∷ ls) = ((step n c b).number ∷ (step n c b).address ∷ []) ∷ play n (step n c b).book ls
play n b (l ∷ ls) = (length b.chain ∷ total b ∷ bounds b.chain) ∷ play n b ls

abbrev pub f : ℕ → ℕ → Line
f s z = call (Free s z)

abbrev pub a : ℕ → ℕ → Line
a z o = call (Allocate z o)

abbrev pub r : ℕ → ℕ → ℕ → Line
r s z o = call (Reserve s z o)

abbrev pub ok : List ℕ
ok = 0 ∷ 0 ∷ []

abbrev pub at : ℕ → List ℕ
at x = 0 ∷ x ∷ []

abbrev pub nay : ℕ → List ℕ
nay k = k ∷ 0 ∷ []

abbrev case : List Line → List (List ℕ) → Case
case ls ps = record { lines = ls; prints = ps }

unfoldable pub table : List Case
table =
    -- the script
    case (f 65536 65536 ∷ a 4096 0 ∷ a 8192 14 ∷ f 65536 4096 ∷ f 81920 4096 ∷ f 86016 4096 ∷ a 65536 0 ∷ r 65536 65536 0 ∷ f 131071 2 ∷ r 70000 100 12 ∷ l ∷ [])
    (ok ∷ at 65536 ∷ at 81920 ∷ ok ∷ ok ∷ ok ∷ at 65536 ∷ nay 3 ∷ ok ∷ nay 3 ∷ (1 ∷ 2 ∷ 131071 ∷ 131072 ∷ []) ∷ [])
    -- the newest of two equals comes first
    ∷ case (f 16384 4096 ∷ f 4096 4096 ∷ a 4096 0 ∷ []) (ok ∷ ok ∷ at 4096 ∷ [])
    -- the same with the frees swapped
    ∷ case (f 4096 4096 ∷ f 16384 4096 ∷ a 4096 0 ∷ []) (ok ∷ ok ∷ at 16384 ∷ [])
    -- a smaller range that does not fit once it is rounded is passed over
    ∷ case (f 4096 4096 ∷ f 16384 16384 ∷ a 4096 13 ∷ []) (ok ∷ ok ∷ at 16384 ∷ [])
    -- zero is a multiple of every power of two
    ∷ case (f 0 8192 ∷ a 4096 63 ∷ []) (ok ∷ at 0 ∷ [])
    -- an allocate from an empty book
    ∷ case (a 1 0 ∷ []) (nay 3 ∷ [])
    -- an order above 63, from an empty book
    ∷ case (a 1 64 ∷ []) (nay 4 ∷ [])
    -- a reserve from an empty book
    ∷ case (r 0 1 0 ∷ []) (nay 3 ∷ [])
    -- a free of one byte
    ∷ case (f 5 1 ∷ []) (ok ∷ [])
    -- a free of no bytes
    ∷ case (f 5 0 ∷ []) (nay 4 ∷ [])
    -- the top of the address space
    ∷ case (f 9223372036854771712 4096 ∷ []) (ok ∷ [])
    -- one byte past the top
    ∷ case (f 9223372036854771712 4097 ∷ []) (nay 4 ∷ [])
    ∷ []
