-- The rules of document 01, to be read beside it: what each call answers, and the book that it leaves. n is the number of records.
-- Requests T-03 and T-06 of document 02 are in force: the last free bytes may be taken, and an allocate keeps looking where a range wants a record that is not there.
-- (A book here is sound; the state that holds it, and the refusal of an unsound one, 2, stand in the crate `pool_state`.) Assumes nothing.
use Rattle.std.specs.Prelude.{Bool, true, false, not, cond, ◌&&◌, ◌||◌, List, [], ◌∷◌, ◌++◌, map, ℕ, zero, suc, ◌+◌, ◌-◌, ◌*◌, ◌/◌, ◌^◌, leb, ltb, eqb}
use Rattle.std.proofs.Math.Option.{Option, none, some}

-- ---- ranges and books

-- addresses stop here
abbrev pub top : ℕ
top = 2 ^ 63

-- the number of records, and of size lists
abbrev pub records : ℕ
records = 256

abbrev pub size_lists : ℕ
size_lists = 12

-- a free range: the number of its record, its first byte and its last
pub record Range : Type 0 where
  pub number : ℕ
  pub start : ℕ
  pub last : ℕ

abbrev pub range : ℕ → ℕ → ℕ → Range
range i s l = record { number = i; start = s; last = l }

abbrev pub start_of : Range → ℕ
start_of r = r.start

abbrev pub size : Range → ℕ
size r = suc r.last - r.start

-- the free ranges, by address and by size
pub record Book : Type 0 where
  pub chain : List Range
  pub shelf : List Range

abbrev pub empty : Book
empty = record { chain = []; shelf = [] }

-- the sum of the sizes
unfoldable pub sum : List Range → ℕ
sum [] = 0
sum (r ∷ l) = size r + sum l

abbrev pub total : Book → ℕ
total b = sum b.chain

-- by address, first and last byte of each
abbrev pub span : Range → ℕ × ℕ
span r = (r.start, r.last)

abbrev pub listing : Book → List (ℕ × ℕ)
listing b = map span b.chain

-- r before the first range whose key is at least its own, else last
unfoldable pub before : (Range → ℕ) → Range → List Range → List Range
before key r [] = r ∷ []
before key r (q ∷ l) = cond (leb (key r) (key q)) (r ∷ q ∷ l) (q ∷ before key r l)

-- the list without the record i
unfoldable pub without : ℕ → List Range → List Range
without i [] = []
without i (q ∷ l) = cond (eqb i q.number) (without i l) (q ∷ without i l)

unfoldable pub put : Range → Book → Book
put r b = record { chain = before start_of r b.chain; shelf = before size r b.shelf }

unfoldable pub remove : Range → Book → Book
remove r b = record { chain = without r.number b.chain; shelf = without r.number b.shelf }

unfoldable pub any : (Range → Bool) → List Range → Bool
any p [] = false
any p (r ∷ l) = p r || any p l

-- the first that passes the test
unfoldable pub find : (Range → Bool) → List Range → Option Range
find p [] = none
find p (r ∷ l) = cond (p r) (some r) (find p l)

-- the lowest unused of the k numbers from i; i + k where none is
unfoldable pub lowest : ℕ → ℕ → List Range → ℕ
lowest zero i l = i
lowest (suc k) i l = cond (any (λ r. eqb i r.number) l) (lowest k (suc i) l) i

unfoldable pub unused : ℕ → Book → ℕ
unused n b = lowest n 0 b.chain

-- all records are used
abbrev pub full : ℕ → Book → Bool
full n b = leb n (unused n b)

-- ---- list numbers and rounding

-- the least of the k numbers from j with z <= 4096 * 2 ^ j; j + k where there is none
unfoldable pub least : ℕ → ℕ → ℕ → ℕ
least zero j z = j
least (suc k) j z = cond (leb z (4096 * 2 ^ j)) j (least k (suc j) z)

unfoldable pub list_number : ℕ → ℕ
list_number z = least (size_lists - 1) 0 z

-- to a multiple of 2 ^ o
unfoldable pub down : ℕ → ℕ → ℕ
down o x = x / 2 ^ o * 2 ^ o

unfoldable pub up : ℕ → ℕ → ℕ
up o x = (x + (2 ^ o - 1)) / 2 ^ o * 2 ^ o

-- ---- bytes. A piece of the addresses is given by its first byte a and the byte t after its last

abbrev pub holds : ℕ → Range → Bool
holds x r = leb r.start x && leb x r.last

unfoldable pub free_at : Book → ℕ → Bool
free_at b x = any (holds x) b.chain

-- a byte of the piece is in r; all of them are
abbrev pub meets : ℕ → ℕ → Range → Bool
meets a t r = ltb r.start t && leb a r.last

abbrev pub contains : ℕ → ℕ → Range → Bool
contains a t r = leb r.start a && leb t (suc r.last)

-- the piece leaves bytes of r on both sides
abbrev pub splits : ℕ → ℕ → Range → Bool
splits a t r = ltb r.start a && leb t r.last

-- the fit test of a range: too few bytes remain from its start rounded up; they fit, and to take them uses no record; they fit, and it uses one
pub data Fit : Type 0 where
  Short : Fit
  Plain : Fit
  Splits : Fit

abbrev pub fit : ℕ → ℕ → Range → Fit
fit z o r = cond (leb (up o r.start + z) (suc r.last)) (cond (splits (up o r.start) (up o r.start + z) r) Splits Plain) Short

-- the range can be served, where `spare` says whether a record is unused; it fits, where it could be with one
abbrev pub serves : Bool → Fit → Bool
serves spare Short = false
serves spare Plain = true
serves spare Splits = spare

abbrev pub fits : Fit → Bool
fits = serves true

-- ---- taking a piece out of r, and giving one back

abbrev pub put_if : Bool → Range → Book → Book
put_if c r b = cond c (put r b) b

-- nothing remains, or one piece, or the low piece and then the high one
unfoldable pub taken : ℕ → Range → ℕ → ℕ → Book → Book
taken n r a t b =
    put_if (leb t r.last) (range (cond (ltb r.start a) (unused n b) r.number) t r.last)
    (put_if (ltb r.start a) (range r.number r.start (a - 1))
    (remove r b))

-- the neighbours of a piece
abbrev pub lower : ℕ → Book → Option Range
lower a b = find (λ r. eqb (suc r.last) a) b.chain

abbrev pub upper : ℕ → Book → Option Range
upper t b = find (λ r. eqb r.start t) b.chain

unfoldable pub joined : ℕ → ℕ → ℕ → Option Range → Option Range → Book → Book
joined i a t none none b = put (range i a (t - 1)) b
joined i a t none (some u) b = put (range u.number a u.last) (remove u b)
joined i a t (some l) none b = put (range l.number l.start (t - 1)) (remove l b)
joined i a t (some l) (some u) b = put (range l.number l.start u.last) (remove u (remove l b))

unfoldable pub given : ℕ → ℕ → ℕ → Book → Book
given n a t b = joined (unused n b) a t (lower a b) (upper t b) b

-- it touches no free range
abbrev pub alone : Option Range → Option Range → Bool
alone none none = true
alone none (some u) = false
alone (some l) u = false

-- ---- the calls

pub record Answer : Type 0 where
  pub number : ℕ
  pub address : ℕ
  pub book : Book

abbrev pub accepted : ℕ → Book → Answer
accepted a b = record { number = 0; address = a; book = b }

abbrev pub refused : ℕ → Book → Answer
refused k b = record { number = k; address = 0; book = b }

-- where the line applies the answer is its number; else the lines below it decide
unfoldable pub refuse : Bool → ℕ → Book → Answer → Answer
refuse c k b below = cond c (refused k b) below

unfoldable pub allocate_from : ℕ → ℕ → ℕ → Book → Option Range → Answer
allocate_from n z o b none = refused 1 b
allocate_from n z o b (some r) = accepted (up o r.start) (taken n r (up o r.start) (up o r.start + z) b)

unfoldable pub allocate : ℕ → ℕ → ℕ → Book → Answer
allocate n z o b =
    refuse (eqb z 0) 4 b
    (refuse (ltb 63 o) 4 b
    (refuse (ltb (total b) z) 3 b
    (refuse (not (any (λ r. fits (fit z o r)) b.shelf)) 3 b
    (allocate_from n z o b (find (λ r. serves (not (full n b)) (fit z o r)) b.shelf)))))

unfoldable pub reserve_from : ℕ → ℕ → ℕ → Book → Option Range → Answer
reserve_from n a t b none = refused 4 b
reserve_from n a t b (some r) =
    refuse (splits a t r && full n b) 1 b
    (accepted 0 (taken n r a t b))

unfoldable pub reserve : ℕ → ℕ → ℕ → ℕ → Book → Answer
reserve n s z o b =
    refuse (eqb z 0) 4 b
    (refuse (ltb 63 o) 4 b
    (refuse (ltb (total b) z) 3 b
    (refuse (ltb top (s + z)) 4 b
    (refuse (ltb (total b) (up o (s + z) - down o s)) 3 b
    (reserve_from n (down o s) (up o (s + z)) b (find (contains (down o s) (up o (s + z))) b.chain))))))

unfoldable pub free : ℕ → ℕ → ℕ → Book → Answer
free n s z b =
    refuse (eqb z 0) 4 b
    (refuse (ltb top (s + z)) 4 b
    (refuse (any (meets s (s + z)) b.chain) 4 b
    (refuse (alone (lower s b) (upper (s + z) b) && full n b) 1 b
    (accepted 0 (given n s (s + z) b)))))

-- ---- calls, and what is kept of them

pub data Call : Type 0 where
  Free : ℕ → ℕ → Call
  Allocate : ℕ → ℕ → Call
  Reserve : ℕ → ℕ → ℕ → Call

unfoldable pub step : ℕ → Call → Book → Answer
step n (Free s z) b = free n s z b
step n (Allocate z o) b = allocate n z o b
step n (Reserve s z o) b = reserve n s z o b

-- what is kept of a call and its answer
pub record Voucher : Type 0 where
  pub call : Call
  pub number : ℕ
  pub address : ℕ

abbrev pub voucher : Call → Answer → Voucher
voucher c w = record { call = c; number = w.number; address = w.address }

abbrev pub frees : Call → Bool
frees (Free s z) = true
frees (Allocate z o) = false
frees (Reserve s z o) = false

-- the piece that a call moves, if it is accepted: `size` bytes from the address, or the widened range
abbrev pub from : Call → ℕ → ℕ
from (Free s z) x = s
from (Allocate z o) x = x
from (Reserve s z o) x = down o s

abbrev pub past : Call → ℕ → ℕ
past (Free s z) x = s + z
past (Allocate z o) x = x + z
past (Reserve s z o) x = up o (s + z)

-- the call was accepted, and covers the byte x
abbrev pub covers : Voucher → ℕ → Bool
covers v x = eqb v.number 0 && (leb (from v.call v.address) x && ltb x (past v.call v.address))

unfoldable pub last_covering : ℕ → List Voucher → Option Voucher
last_covering x [] = none
last_covering x (v ∷ vs) = elim (last_covering x vs) [ none ↦ cond (covers v x) (some v) none | some d ↦ some d ]

-- whether that call was a free; without one, what is said from the first
abbrev pub said : Bool → Option Voucher → Bool
said d none = d
said d (some v) = frees v.call

-- how many numbers below m pass the test
unfoldable pub count : ℕ → (ℕ → Bool) → ℕ
count zero p = 0
count (suc m) p = cond (p m) 1 0 + count m p

-- the call that hands back what a call covered whose address was x
abbrev pub back : Call → ℕ → Call
back c x = Free (from c x) (past c x - from c x)

-- how many ranges of the list pass the test
unfoldable pub tally : (Range → Bool) → List Range → ℕ
tally p [] = 0
tally p (r ∷ l) = cond (p r) 1 0 + tally p l

-- the ranges of size list k; and the k lists from j on, joined in order
unfoldable pub of_list : ℕ → List Range → List Range
of_list k [] = []
of_list k (r ∷ l) = cond (eqb (list_number (size r)) k) (r ∷ of_list k l) (of_list k l)

unfoldable pub lists : ℕ → ℕ → List Range → List Range
lists j zero l = []
lists j (suc k) l = of_list j l ++ lists (suc j) k l
