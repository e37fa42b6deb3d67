-- Cases of request T-07, each with what it prints and the entries that it leaves; proofs/Cases.antt has the one claim about them. The table is tests/holders.txt:
-- `tools/cases` writes it. Assumes nothing.
use Rattle.std.specs.Prelude.{List, [], ◌∷◌, ℕ}
use Rattle.rules.specs.Rules as rules
use Rattle.rules.specs.Rules.{Range, Free, Allocate, Reserve}
use Rattle.rules_engine.specs.Engine as engines
use Rattle.holder_rules.specs.Register.{blank, entry, list_of}
use Rattle.holder_rules.specs.Holders.{Holding, nothing, Call, Offer, By, step}
use Rattle.holder_rules.specs.declared.Entry.{Entry}

-- a call, a holder's list, or the free ranges
pub data Line : Type 0 where
  call : Call → Line
  h : ℕ → Line
  l : Line

-- lines from nothing free and nothing held, with so many records and entries
pub record Case : Type 0 where
  pub records : ℕ
  pub entries : ℕ
  pub lines : List Line
  pub prints : List (List ℕ)
  pub left : List Entry

unfoldable pub bounds : List Range → List ℕ
bounds [] = []
bounds (r ∷ rs) = r.start ∷ r.last ∷ bounds rs

-- the register over the rules themselves, with n records
abbrev Plain : ℕ → Type 0
Plain n = Holding (engines.rules n).State

-- what the lines print
unfoldable pub play : (n : ℕ) → Plain n → List Line → List (List ℕ)
play n k [] = []
play n k (call c ∷ ls) = ((step (engines.rules n) c k).number ∷ (step (engines.rules n) c k).address ∷ []) ∷ play n (step (engines.rules n) c k).holding ls
play n k (h g ∷ ls) = bounds (list_of g k.register) ∷ play n k ls
play n k (l ∷ ls) = bounds k.memory.chain ∷ play n k ls

-- what they leave
unfoldable pub leaves : (n : ℕ) → Plain n → List Line → List Entry
leaves n k [] = k.register
leaves n k (call c ∷ ls) = leaves n (step (engines.rules n) c k).holding ls
leaves n k (h g ∷ ls) = leaves n k ls
leaves n k (l ∷ ls) = leaves n k ls

abbrev pub o : ℕ → ℕ → Line
o s z = call (Offer s z)

abbrev pub a : ℕ → ℕ → ℕ → Line
a g z d = call (By g (Allocate z d))

abbrev pub r : ℕ → ℕ → ℕ → ℕ → Line
r g s z d = call (By g (Reserve s z d))

abbrev pub f : ℕ → ℕ → ℕ → Line
f g s z = call (By g (Free s z))

abbrev ok : List ℕ
ok = 0 ∷ 0 ∷ []

abbrev at : ℕ → List ℕ
at x = 0 ∷ x ∷ []

abbrev nay : ℕ → List ℕ
nay k = k ∷ 0 ∷ []

abbrev case : ℕ → ℕ → List Line → List (List ℕ) → List Entry → Case
case n m ls ps es = record { records = n; entries = m; lines = ls; prints = ps; left = es }

unfoldable pub table : List Case
table =
    -- a holder number is tested before the allocator is asked
    case 8 4 (a 17 1 0 ∷ a 1 1 0 ∷ []) (nay 4 ∷ nay 3 ∷ []) (blank ∷ blank ∷ blank ∷ blank ∷ [])
    -- a holder number is the whole number
    ∷ case 8 4 (o 0 1 ∷ a 257 1 0 ∷ a 1 1 0 ∷ f 257 0 1 ∷ []) (ok ∷ nay 4 ∷ at 0 ∷ nay 4 ∷ []) (entry 1 0 0 ∷ blank ∷ blank ∷ blank ∷ [])
    -- holders are 1 to 16
    ∷ case 8 4 (o 0 2 ∷ a 0 1 0 ∷ a 17 1 0 ∷ a 16 1 0 ∷ []) (ok ∷ nay 4 ∷ nay 4 ∷ at 0 ∷ []) (entry 16 0 0 ∷ blank ∷ blank ∷ blank ∷ [])
    -- the board is no holder
    ∷ case 8 4 (o 0 1 ∷ r 0 0 1 0 ∷ f 0 0 1 ∷ []) (ok ∷ nay 4 ∷ nay 4 ∷ []) (blank ∷ blank ∷ blank ∷ blank ∷ [])
    -- the entry of a reserve is the widened piece
    ∷ case 8 4 (o 0 2 ∷ r 1 1 1 1 ∷ h 1 ∷ []) (ok ∷ ok ∷ (0 ∷ 1 ∷ []) ∷ []) (entry 1 0 1 ∷ blank ∷ blank ∷ blank ∷ [])
    -- the entry of an aligned allocate has not the bytes before it
    ∷ case 8 4 (o 1 3 ∷ a 1 1 1 ∷ h 1 ∷ []) (ok ∷ at 2 ∷ (2 ∷ 2 ∷ []) ∷ []) (entry 1 2 2 ∷ blank ∷ blank ∷ blank ∷ [])
    -- ranges of one holder that touch are not joined
    ∷ case 8 4 (o 0 2 ∷ a 1 1 0 ∷ a 1 1 0 ∷ h 1 ∷ []) (ok ∷ at 0 ∷ at 1 ∷ (0 ∷ 0 ∷ 1 ∷ 1 ∷ []) ∷ []) (entry 1 0 0 ∷ entry 1 1 1 ∷ blank ∷ blank ∷ [])
    -- a take uses the lowest unused entry, and no other entry moves
    ∷ case 8 4 (o 0 2 ∷ a 1 1 0 ∷ a 2 1 0 ∷ f 1 0 1 ∷ a 3 1 0 ∷ []) (ok ∷ at 0 ∷ at 1 ∷ ok ∷ at 0 ∷ []) (entry 3 0 0 ∷ entry 2 1 1 ∷ blank ∷ blank ∷ [])
    -- a part is not as it was handed out
    ∷ case 8 4 (o 0 2 ∷ a 1 2 0 ∷ f 1 0 1 ∷ f 1 1 1 ∷ f 1 0 2 ∷ []) (ok ∷ at 0 ∷ nay 5 ∷ nay 5 ∷ ok ∷ []) (blank ∷ blank ∷ blank ∷ blank ∷ [])
    -- two ranges at once are not as they were handed out
    ∷ case 8 4 (o 0 2 ∷ a 1 1 0 ∷ a 1 1 0 ∷ f 1 0 2 ∷ []) (ok ∷ at 0 ∷ at 1 ∷ nay 5 ∷ []) (entry 1 0 0 ∷ entry 1 1 1 ∷ blank ∷ blank ∷ [])
    -- the numbers of a widened reserve are not as it was handed out
    ∷ case 8 4 (o 0 2 ∷ r 1 1 1 1 ∷ f 1 1 1 ∷ f 1 0 2 ∷ []) (ok ∷ ok ∷ nay 5 ∷ ok ∷ []) (blank ∷ blank ∷ blank ∷ blank ∷ [])
    -- the entries of now count
    ∷ case 8 4 (o 0 2 ∷ a 1 1 0 ∷ f 1 0 1 ∷ a 1 2 0 ∷ f 1 0 1 ∷ f 1 0 2 ∷ []) (ok ∷ at 0 ∷ ok ∷ at 0 ∷ nay 5 ∷ ok ∷ []) (blank ∷ blank ∷ blank ∷ blank ∷ [])
    -- another's range is not yours while it is held, and free once it is handed back
    ∷ case 8 4 (o 0 2 ∷ a 2 1 0 ∷ f 1 0 1 ∷ f 2 0 1 ∷ f 1 0 1 ∷ []) (ok ∷ at 0 ∷ nay 5 ∷ ok ∷ nay 4 ∷ []) (blank ∷ blank ∷ blank ∷ blank ∷ [])
    -- partly free
    ∷ case 8 4 (o 0 2 ∷ a 1 1 0 ∷ f 1 0 2 ∷ []) (ok ∷ at 0 ∷ nay 4 ∷ []) (entry 1 0 0 ∷ blank ∷ blank ∷ blank ∷ [])
    -- partly never offered
    ∷ case 8 4 (o 0 1 ∷ a 1 1 0 ∷ f 1 0 2 ∷ []) (ok ∷ at 0 ∷ nay 5 ∷ []) (entry 1 0 0 ∷ blank ∷ blank ∷ blank ∷ [])
    -- bytes that nobody offered are nobody's
    ∷ case 8 4 (f 1 0 1 ∷ f 1 0 0 ∷ f 1 9223372036854775807 2 ∷ f 1 9223372036854775807 1 ∷ []) (nay 5 ∷ nay 4 ∷ nay 4 ∷ nay 5 ∷ []) (blank ∷ blank ∷ blank ∷ blank ∷ [])
    -- the board cannot hand back for a holder
    ∷ case 8 4 (o 0 1 ∷ a 1 1 0 ∷ o 0 1 ∷ []) (ok ∷ at 0 ∷ nay 5 ∷ []) (entry 1 0 0 ∷ blank ∷ blank ∷ blank ∷ [])
    -- an offer that touches a held range does not overlap it
    ∷ case 8 4 (o 1 1 ∷ a 1 1 0 ∷ o 0 1 ∷ o 2 1 ∷ []) (ok ∷ at 1 ∷ ok ∷ ok ∷ []) (entry 1 1 1 ∷ blank ∷ blank ∷ blank ∷ [])
    -- an offer over both ends of a held range
    ∷ case 8 4 (o 1 1 ∷ a 1 1 0 ∷ o 0 3 ∷ []) (ok ∷ at 1 ∷ nay 5 ∷ []) (entry 1 1 1 ∷ blank ∷ blank ∷ blank ∷ [])
    -- a free byte and a held one in one offer
    ∷ case 8 4 (o 0 2 ∷ a 1 1 0 ∷ o 0 2 ∷ o 0 9223372036854775809 ∷ []) (ok ∷ at 0 ∷ nay 4 ∷ nay 4 ∷ []) (entry 1 0 0 ∷ blank ∷ blank ∷ blank ∷ [])
    -- a byte is offered once
    ∷ case 8 4 (o 0 1 ∷ o 0 1 ∷ a 1 1 0 ∷ o 0 1 ∷ f 1 0 1 ∷ o 0 1 ∷ []) (ok ∷ nay 4 ∷ at 0 ∷ nay 5 ∷ ok ∷ nay 4 ∷ []) (blank ∷ blank ∷ blank ∷ blank ∷ [])
    -- a list is by address, not by entry
    ∷ case 8 4 (o 0 2 ∷ r 1 1 1 0 ∷ r 1 0 1 0 ∷ h 1 ∷ []) (ok ∷ ok ∷ ok ∷ (0 ∷ 0 ∷ 1 ∷ 1 ∷ []) ∷ []) (entry 1 1 1 ∷ entry 1 0 0 ∷ blank ∷ blank ∷ [])
    -- calls of the board and of another leave a list as it was
    ∷ case 8 4 (o 0 9 ∷ r 1 4 1 0 ∷ o 9 1 ∷ f 2 4 1 ∷ h 1 ∷ h 2 ∷ []) (ok ∷ ok ∷ ok ∷ nay 5 ∷ (4 ∷ 4 ∷ []) ∷ [] ∷ []) (entry 1 4 4 ∷ blank ∷ blank ∷ blank ∷ [])
    -- only the holder who took hands back
    ∷ case 8 4 (o 0 3 ∷ r 1 1 1 0 ∷ f 2 1 1 ∷ o 1 1 ∷ f 1 1 1 ∷ l ∷ []) (ok ∷ ok ∷ nay 5 ∷ nay 5 ∷ ok ∷ (0 ∷ 2 ∷ []) ∷ []) (blank ∷ blank ∷ blank ∷ blank ∷ [])
    -- a full register is the last refusal of all
    ∷ case 8 2 (o 0 3 ∷ a 1 1 0 ∷ a 1 1 0 ∷ a 2 1 0 ∷ a 1 0 0 ∷ a 17 1 0 ∷ a 1 2 0 ∷ r 1 0 1 0 ∷ f 1 0 1 ∷ a 2 1 0 ∷ [])
    (ok ∷ at 0 ∷ at 1 ∷ nay 6 ∷ nay 4 ∷ nay 4 ∷ nay 3 ∷ nay 4 ∷ ok ∷ at 0 ∷ [])
    (entry 2 0 0 ∷ entry 1 1 1 ∷ [])
    -- a split without a record comes before a full register
    ∷ case 1 1 (o 0 1 ∷ a 1 1 0 ∷ o 1001 3 ∷ a 1 1 1 ∷ a 1 1 0 ∷ r 1 1002 1 0 ∷ r 1 1001 1 0 ∷ []) (ok ∷ at 0 ∷ ok ∷ nay 1 ∷ nay 6 ∷ nay 1 ∷ nay 6 ∷ []) (entry 1 0 0 ∷ [])
    -- a full register changes nothing, not even the order among equals
    ∷ case 8 1 (o 0 1 ∷ a 1 1 0 ∷ o 1000 16 ∷ o 2000 16 ∷ r 1 1000 16 0 ∷ f 1 0 1 ∷ a 1 16 0 ∷ []) (ok ∷ at 0 ∷ ok ∷ ok ∷ nay 6 ∷ ok ∷ at 2000 ∷ []) (entry 1 2000 2015 ∷ [])
    -- not yours comes after every 4 and before 1
    ∷ case 1 4 (o 0 1 ∷ a 1 1 0 ∷ o 2 1 ∷ o 0 1 ∷ f 2 0 1 ∷ f 1 2 1 ∷ o 6 1 ∷ []) (ok ∷ at 0 ∷ ok ∷ nay 5 ∷ nay 5 ∷ nay 4 ∷ nay 1 ∷ [])
    (entry 1 0 0 ∷ blank ∷ blank ∷ blank ∷ [])
    -- one's own range can be refused for want of a record, and asked again
    ∷ case 1 4 (o 0 1 ∷ a 1 1 0 ∷ o 2 1 ∷ f 1 0 1 ∷ h 1 ∷ o 1 1 ∷ f 1 0 1 ∷ l ∷ []) (ok ∷ at 0 ∷ ok ∷ nay 1 ∷ (0 ∷ 0 ∷ []) ∷ ok ∷ ok ∷ (0 ∷ 2 ∷ []) ∷ [])
    (blank ∷ blank ∷ blank ∷ blank ∷ [])
    ∷ []
