-- A journal in bytes: a version, then a block for each call with its answer. Assumes nothing.
use Rattle.std.specs.Prelude.{ℕ, zero, suc, ◌+◌, ◌*◌, ◌^◌, ◌<◌, Bool, cond, ◌&&◌, ◌||◌, List, [], ◌∷◌, ◌++◌, eqb, leb, length, get_or, drop}
use Rattle.bytes_be.specs.Numbers.{be}
use Rattle.image_parts.specs.Written.{joined}
use Rattle.image_parts.specs.Read.{number_in}
use Rattle.calls.specs.declared.Request.{Request}
use Rattle.calls.specs.declared.Request.TheVariants.{Allocate, Reserve, Free}
use Rattle.journal_blocks.specs.declared.Entry.{Entry}
use Rattle.journal_blocks.specs.declared.Block.{Block}
use Rattle.journal_blocks.specs.declared.Block.TheVariants.{Call, End, Truncated, UnknownCall, WrongLength}

-- ---- the layout

-- the first byte of a journal
abbrev pub version : ℕ
version = 1

-- the call byte of a request, and its numbers as typed
abbrev pub kind_of : Request → ℕ
kind_of (Free a z) = 1
kind_of (Allocate z o) = 2
kind_of (Reserve a z o) = 3

abbrev pub numbers_of : Request → List ℕ
numbers_of (Free a z) = a.0 ∷ z ∷ []
numbers_of (Allocate z o) = z ∷ o ∷ []
numbers_of (Reserve a z o) = a.0 ∷ z ∷ o ∷ []

-- the length of what follows it: 25, 25, 33
abbrev pub length_of : ℕ → ℕ
length_of kind = cond (eqb kind 3) 33 25

-- numbers in 8 bytes each
unfoldable pub word_bytes : List ℕ → List ℕ
word_bytes words = joined (length words) 0 (λ k. be 8 (get_or words k 0))

-- a block: the length, the call byte, and these numbers
unfoldable pub laid_out : ℕ → List ℕ → List ℕ
laid_out kind words = be 2 (1 + 8 * length words) ++ (be 1 kind ++ word_bytes words)

abbrev pub block_bytes : Entry → List ℕ
block_bytes e = laid_out (kind_of e.request) (numbers_of e.request ++ (e.answer ∷ []))

unfoldable pub blocks_bytes : List Entry → List ℕ
blocks_bytes [] = []
blocks_bytes (e ∷ es) = block_bytes e ++ blocks_bytes es

abbrev pub journal_bytes : List Entry → List ℕ
journal_bytes es = version ∷ blocks_bytes es

-- ---- reading

abbrev pub versioned : List ℕ → Bool
versioned l = eqb (get_or l 0 0) version

-- the length is one that some call has; the call byte is one that there is
abbrev pub is_length_lem : ℕ → Bool
is_length_lem size = eqb size 25 || eqb size 33

abbrev pub is_kind_lem : ℕ → Bool
is_kind_lem kind = leb 1 kind && leb kind 3

-- in the bytes r of a block: its length, its call byte, and its j-th number
abbrev pub size_in : List ℕ → ℕ
size_in r = number_in r 0 2

abbrev pub kind_in : List ℕ → ℕ
kind_in r = number_in r 2 1

abbrev pub word_in : List ℕ → ℕ → ℕ
word_in r j = number_in r (3 + 8 * j) 8

abbrev pub entry : Request → ℕ → Entry
entry q i = record { request = q; answer = i }

-- the call and its answer
abbrev pub entry_in_lem : ℕ → List ℕ → Entry
entry_in_lem kind r =
    cond (eqb kind 1) (entry (Free (record { 0 = word_in r 0 }) (word_in r 1)) (word_in r 2))
    (cond (eqb kind 2) (entry (Allocate (word_in r 0) (word_in r 1)) (word_in r 2))
    (entry (Reserve (record { 0 = word_in r 0 }) (word_in r 1) (word_in r 2)) (word_in r 3)))

-- a block that is there whole: an unknown call byte, then a length that is not this call's
unfoldable pub whole_block : ℕ → ℕ → List ℕ → Block
whole_block at size r =
    cond (is_kind_lem (kind_in r))
    (cond (eqb size (length_of (kind_in r))) (Call (entry_in_lem (kind_in r) r) (at + (2 + size))) WrongLength)
    UnknownCall

-- what the bytes r say, which stand at the place `at`: fewer than 2 of them, then a length that no call has, then fewer than it says
unfoldable pub block_of : ℕ → List ℕ → Block
block_of at r =
    cond (leb 1 (length r))
    (cond (leb 2 (length r))
    (cond (is_length_lem (size_in r)) (cond (leb (2 + size_in r) (length r)) (whole_block at (size_in r) r) Truncated) WrongLength)
    Truncated)
    End

abbrev pub block_at : List ℕ → ℕ → Block
block_at l at = block_of at (drop at l)

-- ---- a whole journal: its calls up to the first block that is none, and what that is

pub record Contents : Type 0 where
  pub entries : List Entry
  pub ending : Block

abbrev pub contents : List Entry → Block → Contents
contents es end = record { entries = es; ending = end }

-- a call goes before what is read from the place after it; anything else ends the journal
abbrev pub followed_by : (ℕ → Contents) → Block → Contents
followed_by rest (Call e next) = contents (e ∷ (rest next).entries) (rest next).ending
followed_by rest End = contents [] End
followed_by rest Truncated = contents [] Truncated
followed_by rest UnknownCall = contents [] UnknownCall
followed_by rest WrongLength = contents [] WrongLength

-- from a place on; the first number counts down, and as many as there are bytes from there on are enough
unfoldable pub read_from : ℕ → List ℕ → ℕ → Contents
read_from zero l at = contents [] End
read_from (suc k) l at = followed_by (read_from k l) (block_at l at)

abbrev pub read_all : List ℕ → Contents
read_all l = read_from (length (drop 1 l)) (drop 1 l) 0

-- ---- what is written, and read again

-- the numbers are of 64 bits
abbrev pub Fit : Request → Type 0
Fit (Free a z) = (a.0 < 2 ^ 64) × (z < 2 ^ 64)
Fit (Allocate z o) = (z < 2 ^ 64) × (o < 2 ^ 64)
Fit (Reserve a z o) = (a.0 < 2 ^ 64) × (z < 2 ^ 64) × (o < 2 ^ 64)

abbrev pub Fits : Entry → Type 0
Fits e = Fit e.request × (e.answer < 2 ^ 64)

unfoldable pub AllFit : List Entry → Type 0
AllFit [] = Unit {0}
AllFit (e ∷ es) = Fits e × AllFit es
