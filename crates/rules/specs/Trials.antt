-- Cases beside the ledger's: each line of the rules decides one of them at least, so that a changed line changes what a case prints or leaves.
-- proofs/Trials.antt has the claims. `placed`, `refusals` and `emptied` are the sections of tests/cases.txt with these names: `tools/cases` writes
-- them. Assumes nothing.
use Rattle.std.specs.Prelude.{Bool, true, false, List, [], ◌∷◌, map, ℕ}
use Rattle.rules.specs.Rules.{records, Range, Book, empty, free_at, step, Voucher, voucher, last_covering, said}
use Rattle.rules.specs.Ledger.{Line, call, l, f, a, r, ok, at, nay}

-- lines from empty with so many records: what they print, and the book that they leave, by address and by size, each range with the number of its record
pub record Trial : Type 0 where
  pub records : ℕ
  pub lines : List Line
  pub prints : List (List ℕ)
  pub chain : List (List ℕ)
  pub shelf : List (List ℕ)

unfoldable pub shown : List Range → List (List ℕ)
shown [] = []
shown (q ∷ rs) = (q.number ∷ q.start ∷ q.last ∷ []) ∷ shown rs

unfoldable pub left : ℕ → Book → List Line → Book
left n b [] = b
left n b (call c ∷ ls) = left n (step n c b).book ls
left n b (l ∷ ls) = left n b ls

unfoldable pub vouchers_of : ℕ → Book → List Line → List Voucher
vouchers_of n b [] = []
vouchers_of n b (call c ∷ ls) = voucher c (step n c b) ∷ vouchers_of n (step n c b).book ls
vouchers_of n b (l ∷ ls) = vouchers_of n b ls

abbrev trial : ℕ → List Line → List (List ℕ) → List (List ℕ) → List (List ℕ) → Trial
trial n ls ps c s = record { records = n; lines = ls; prints = ps; chain = c; shelf = s }

-- a range: the number of its record, its first byte and its last
abbrev at# : ℕ → ℕ → ℕ → List ℕ
at# i s e = i ∷ s ∷ e ∷ []

-- ---- where ranges are placed, and which records they have

unfoldable pub placed : List Trial
placed =
    -- by size, the newest first among equals
    trial records (f 0 8192 ∷ f 16384 4096 ∷ f 32768 8192 ∷ f 65536 4096 ∷ []) (ok ∷ ok ∷ ok ∷ ok ∷ [])
    (at# 0 0 8191 ∷ at# 1 16384 20479 ∷ at# 2 32768 40959 ∷ at# 3 65536 69631 ∷ []) (at# 3 65536 69631 ∷ at# 1 16384 20479 ∷ at# 2 32768 40959 ∷ at# 0 0 8191 ∷ [])
    -- of equal halves the high one, placed last, comes first; the low piece keeps the record, the high one has a new one
    ∷ trial records (f 0 12288 ∷ r 4096 4096 0 ∷ []) (ok ∷ ok ∷ []) (at# 0 0 4095 ∷ at# 1 8192 12287 ∷ []) (at# 1 8192 12287 ∷ at# 0 0 4095 ∷ [])
    -- of equal halves the high one goes first
    ∷ trial records (f 0 12288 ∷ r 4096 4096 0 ∷ a 4096 0 ∷ []) (ok ∷ ok ∷ at 8192 ∷ []) (at# 0 0 4095 ∷ []) (at# 0 0 4095 ∷ [])
    -- a piece that alone remains keeps its record: behind a front
    ∷ trial records (f 65536 1 ∷ f 0 8192 ∷ r 0 4096 0 ∷ []) (ok ∷ ok ∷ ok ∷ []) (at# 1 4096 8191 ∷ at# 0 65536 65536 ∷ []) (at# 0 65536 65536 ∷ at# 1 4096 8191 ∷ [])
    -- a piece that alone remains keeps its record: before a tail
    ∷ trial records (f 65536 1 ∷ f 0 8192 ∷ r 4096 4096 0 ∷ []) (ok ∷ ok ∷ ok ∷ []) (at# 1 0 4095 ∷ at# 0 65536 65536 ∷ []) (at# 0 65536 65536 ∷ at# 1 0 4095 ∷ [])
    -- joined with the upper alone, the upper record stays
    ∷ trial records (f 0 1 ∷ f 8192 4096 ∷ f 4096 4096 ∷ []) (ok ∷ ok ∷ ok ∷ []) (at# 0 0 0 ∷ at# 1 4096 12287 ∷ []) (at# 0 0 0 ∷ at# 1 4096 12287 ∷ [])
    -- joined with the lower alone, the lower record stays
    ∷ trial records (f 65536 1 ∷ f 4096 4096 ∷ f 8192 4096 ∷ []) (ok ∷ ok ∷ ok ∷ []) (at# 1 4096 12287 ∷ at# 0 65536 65536 ∷ []) (at# 0 65536 65536 ∷ at# 1 4096 12287 ∷ [])
    -- joined with both, the lower record stays; the other is the lowest unused again
    ∷ trial records (f 0 4096 ∷ f 8192 4096 ∷ f 4096 4096 ∷ f 20480 4096 ∷ []) (ok ∷ ok ∷ ok ∷ ok ∷ [])
    (at# 0 0 12287 ∷ at# 1 20480 24575 ∷ []) (at# 1 20480 24575 ∷ at# 0 0 12287 ∷ [])
    -- joined with both, the lower record stays, though its number is the greater
    ∷ trial records (f 8192 4096 ∷ f 0 4096 ∷ f 65536 1 ∷ f 4096 4096 ∷ f 20480 4096 ∷ []) (ok ∷ ok ∷ ok ∷ ok ∷ ok ∷ [])
    (at# 1 0 12287 ∷ at# 0 20480 24575 ∷ at# 2 65536 65536 ∷ []) (at# 2 65536 65536 ∷ at# 0 20480 24575 ∷ at# 1 0 12287 ∷ [])
    -- the first range of the shelf that fits, from its start rounded up; the smaller one does not fit once it is rounded
    ∷ trial records (f 4097 8191 ∷ f 32769 16383 ∷ a 8192 12 ∷ []) (ok ∷ ok ∷ at 36864 ∷ [])
    (at# 0 4097 12287 ∷ at# 1 32769 36863 ∷ at# 2 45056 49151 ∷ []) (at# 1 32769 36863 ∷ at# 2 45056 49151 ∷ at# 0 4097 12287 ∷ [])
    -- an aligned request whose tail exactly ends the range; then one that leaves a single byte
    ∷ trial records (f 12288 8192 ∷ a 4096 14 ∷ a 4095 0 ∷ l ∷ []) (ok ∷ at 16384 ∷ at 12288 ∷ (1 ∷ 1 ∷ 16383 ∷ 16383 ∷ []) ∷ [])
    (at# 0 16383 16383 ∷ []) (at# 0 16383 16383 ∷ [])
    -- of three ranges, whose order by size is another than by address, the last is made smaller
    ∷ trial records (f 0 8192 ∷ f 16384 4096 ∷ f 32768 12288 ∷ r 32768 2048 0 ∷ []) (ok ∷ ok ∷ ok ∷ ok ∷ [])
    (at# 0 0 8191 ∷ at# 1 16384 20479 ∷ at# 2 34816 45055 ∷ []) (at# 1 16384 20479 ∷ at# 0 0 8191 ∷ at# 2 34816 45055 ∷ [])
    -- a reserve is widened at both ends, and an end on a multiple stays
    ∷ trial records (f 0 65536 ∷ r 5000 3192 12 ∷ r 20000 5000 12 ∷ []) (ok ∷ ok ∷ ok ∷ [])
    (at# 0 0 4095 ∷ at# 1 8192 16383 ∷ at# 2 28672 65535 ∷ []) (at# 0 0 4095 ∷ at# 1 8192 16383 ∷ at# 2 28672 65535 ∷ [])
    ∷ []

-- ---- the lines that refuse: what was there stays

unfoldable pub refusals : List Trial
refusals =
    -- allocate: no bytes
    trial records (f 8192 8192 ∷ a 0 0 ∷ []) (ok ∷ nay 4 ∷ []) (at# 0 8192 16383 ∷ []) (at# 0 8192 16383 ∷ [])
    -- allocate: an order above 63
    ∷ trial records (f 8192 8192 ∷ a 1 64 ∷ []) (ok ∷ nay 4 ∷ []) (at# 0 8192 16383 ∷ []) (at# 0 8192 16383 ∷ [])
    -- allocate: above the total
    ∷ trial records (f 8192 8192 ∷ a 8193 0 ∷ []) (ok ∷ nay 3 ∷ []) (at# 0 8192 16383 ∷ []) (at# 0 8192 16383 ∷ [])
    -- allocate: the total, in two ranges
    ∷ trial records (f 8192 8192 ∷ f 65536 4096 ∷ a 12288 0 ∷ []) (ok ∷ ok ∷ nay 3 ∷ []) (at# 0 8192 16383 ∷ at# 1 65536 69631 ∷ []) (at# 1 65536 69631 ∷ at# 0 8192 16383 ∷ [])
    -- allocate: below the total, and more than any range has
    ∷ trial records (f 8192 8192 ∷ f 65536 4096 ∷ a 8193 0 ∷ []) (ok ∷ ok ∷ nay 3 ∷ []) (at# 0 8192 16383 ∷ at# 1 65536 69631 ∷ []) (at# 1 65536 69631 ∷ at# 0 8192 16383 ∷ [])
    -- allocate: a front without a record left; then an order that only 0 serves
    ∷ trial 1 (f 8192 8192 ∷ a 4096 13 ∷ a 1 63 ∷ []) (ok ∷ at 8192 ∷ nay 3 ∷ []) (at# 0 12288 16383 ∷ []) (at# 0 12288 16383 ∷ [])
    -- allocate: a split without a record left
    ∷ trial 1 (f 4096 12288 ∷ a 4096 13 ∷ []) (ok ∷ nay 1 ∷ []) (at# 0 4096 16383 ∷ []) (at# 0 4096 16383 ∷ [])
    -- allocate: an aligned tail without a record left
    ∷ trial 1 (f 4096 8192 ∷ a 4096 13 ∷ []) (ok ∷ at 8192 ∷ []) (at# 0 4096 8191 ∷ []) (at# 0 4096 8191 ∷ [])
    -- reserve: no bytes
    ∷ trial records (f 8192 8192 ∷ r 8192 0 0 ∷ []) (ok ∷ nay 4 ∷ []) (at# 0 8192 16383 ∷ []) (at# 0 8192 16383 ∷ [])
    -- reserve: an order above 63
    ∷ trial records (f 8192 8192 ∷ r 8192 1 64 ∷ []) (ok ∷ nay 4 ∷ []) (at# 0 8192 16383 ∷ []) (at# 0 8192 16383 ∷ [])
    -- reserve: above the total, before past the top
    ∷ trial records (f 8192 8192 ∷ r 9223372036854775807 8193 0 ∷ []) (ok ∷ nay 3 ∷ []) (at# 0 8192 16383 ∷ []) (at# 0 8192 16383 ∷ [])
    -- reserve: past the top, as many bytes as are free
    ∷ trial records (f 8192 8192 ∷ r 9223372036854775807 8192 0 ∷ []) (ok ∷ nay 4 ∷ []) (at# 0 8192 16383 ∷ []) (at# 0 8192 16383 ∷ [])
    -- reserve: past the top by one byte
    ∷ trial records (f 8192 8192 ∷ r 9223372036854775807 2 0 ∷ []) (ok ∷ nay 4 ∷ []) (at# 0 8192 16383 ∷ []) (at# 0 8192 16383 ∷ [])
    -- reserve: past the top, before it is widened
    ∷ trial records (f 8192 8192 ∷ r 9223372036854775807 2 63 ∷ []) (ok ∷ nay 4 ∷ []) (at# 0 8192 16383 ∷ []) (at# 0 8192 16383 ∷ [])
    -- reserve: above the total once its end is widened
    ∷ trial records (f 8192 8192 ∷ r 8192 1 14 ∷ []) (ok ∷ nay 3 ∷ []) (at# 0 8192 16383 ∷ []) (at# 0 8192 16383 ∷ [])
    -- reserve: above the total once both ends are widened
    ∷ trial records (f 8192 8192 ∷ r 8191 1 14 ∷ []) (ok ∷ nay 3 ∷ []) (at# 0 8192 16383 ∷ []) (at# 0 8192 16383 ∷ [])
    -- reserve: all addresses once it is widened
    ∷ trial records (f 8192 8192 ∷ r 0 1 63 ∷ []) (ok ∷ nay 3 ∷ []) (at# 0 8192 16383 ∷ []) (at# 0 8192 16383 ∷ [])
    -- reserve: above the total once it is widened, wherever it lies
    ∷ trial records (f 8192 100 ∷ r 40000 1 12 ∷ r 40960 1 12 ∷ []) (ok ∷ nay 3 ∷ nay 3 ∷ []) (at# 0 8192 8291 ∷ []) (at# 0 8192 8291 ∷ [])
    -- reserve: its widened start is not free
    ∷ trial records (f 8192 8192 ∷ f 65536 65536 ∷ r 9000 100 14 ∷ []) (ok ∷ ok ∷ nay 4 ∷ [])
    (at# 0 8192 16383 ∷ at# 1 65536 131071 ∷ []) (at# 0 8192 16383 ∷ at# 1 65536 131071 ∷ [])
    -- reserve: its widened end is not free
    ∷ trial records (f 0 16384 ∷ f 65536 65536 ∷ r 15000 100 15 ∷ []) (ok ∷ ok ∷ nay 4 ∷ []) (at# 0 0 16383 ∷ at# 1 65536 131071 ∷ []) (at# 0 0 16383 ∷ at# 1 65536 131071 ∷ [])
    -- reserve: a whole range once it is widened
    ∷ trial records (f 8192 8192 ∷ f 65536 4096 ∷ r 12287 2 12 ∷ []) (ok ∷ ok ∷ ok ∷ []) (at# 1 65536 69631 ∷ []) (at# 1 65536 69631 ∷ [])
    -- reserve: from one byte before a range
    ∷ trial records (f 8192 8192 ∷ r 8191 2 0 ∷ []) (ok ∷ nay 4 ∷ []) (at# 0 8192 16383 ∷ []) (at# 0 8192 16383 ∷ [])
    -- reserve: to one byte past a range
    ∷ trial records (f 8192 8192 ∷ r 16383 2 0 ∷ []) (ok ∷ nay 4 ∷ []) (at# 0 8192 16383 ∷ []) (at# 0 8192 16383 ∷ [])
    -- reserve: all but the last byte
    ∷ trial records (f 8192 8192 ∷ r 8192 8191 0 ∷ []) (ok ∷ ok ∷ []) (at# 0 16383 16383 ∷ []) (at# 0 16383 16383 ∷ [])
    -- reserve: all but the first byte
    ∷ trial records (f 8192 8192 ∷ r 8193 8191 0 ∷ []) (ok ∷ ok ∷ []) (at# 0 8192 8192 ∷ []) (at# 0 8192 8192 ∷ [])
    -- reserve: a split without a record left
    ∷ trial 1 (f 8192 8192 ∷ r 8193 8190 0 ∷ []) (ok ∷ nay 1 ∷ []) (at# 0 8192 16383 ∷ []) (at# 0 8192 16383 ∷ [])
    -- reserve: a front without a record left
    ∷ trial 1 (f 4096 12288 ∷ r 4096 4096 0 ∷ []) (ok ∷ ok ∷ []) (at# 0 8192 16383 ∷ []) (at# 0 8192 16383 ∷ [])
    -- reserve: the last address
    ∷ trial records (f 8192 8192 ∷ f 9223372036854775807 1 ∷ r 9223372036854775807 1 0 ∷ []) (ok ∷ ok ∷ ok ∷ []) (at# 0 8192 16383 ∷ []) (at# 0 8192 16383 ∷ [])
    -- free: no bytes
    ∷ trial records (f 8192 8192 ∷ f 0 0 ∷ []) (ok ∷ nay 4 ∷ []) (at# 0 8192 16383 ∷ []) (at# 0 8192 16383 ∷ [])
    -- free: past the top
    ∷ trial records (f 8192 8192 ∷ f 9223372036854775807 2 ∷ []) (ok ∷ nay 4 ∷ []) (at# 0 8192 16383 ∷ []) (at# 0 8192 16383 ∷ [])
    -- free: a range's first byte with the one before
    ∷ trial records (f 8192 8192 ∷ f 8191 2 ∷ []) (ok ∷ nay 4 ∷ []) (at# 0 8192 16383 ∷ []) (at# 0 8192 16383 ∷ [])
    -- free: a range's last byte with the one behind
    ∷ trial records (f 8192 8192 ∷ f 16383 2 ∷ []) (ok ∷ nay 4 ∷ []) (at# 0 8192 16383 ∷ []) (at# 0 8192 16383 ∷ [])
    -- free: all around a range
    ∷ trial records (f 8192 8192 ∷ f 0 65536 ∷ []) (ok ∷ nay 4 ∷ []) (at# 0 8192 16383 ∷ []) (at# 0 8192 16383 ∷ [])
    -- free: the last byte of the last range
    ∷ trial records (f 8192 8192 ∷ f 65536 4096 ∷ f 69631 1 ∷ []) (ok ∷ ok ∷ nay 4 ∷ []) (at# 0 8192 16383 ∷ at# 1 65536 69631 ∷ []) (at# 1 65536 69631 ∷ at# 0 8192 16383 ∷ [])
    -- free: apart, without a record left
    ∷ trial 1 (f 8192 8192 ∷ f 65536 1 ∷ []) (ok ∷ nay 1 ∷ []) (at# 0 8192 16383 ∷ []) (at# 0 8192 16383 ∷ [])
    -- free: one byte apart, without a record left
    ∷ trial 1 (f 8192 8192 ∷ f 16385 1 ∷ []) (ok ∷ nay 1 ∷ []) (at# 0 8192 16383 ∷ []) (at# 0 8192 16383 ∷ [])
    -- free: joined with the lower without a record left
    ∷ trial 1 (f 8192 8191 ∷ f 16383 1 ∷ []) (ok ∷ ok ∷ []) (at# 0 8192 16383 ∷ []) (at# 0 8192 16383 ∷ [])
    -- free: joined with the upper without a record left
    ∷ trial 1 (f 8193 8191 ∷ f 8192 1 ∷ []) (ok ∷ ok ∷ []) (at# 0 8192 16383 ∷ []) (at# 0 8192 16383 ∷ [])
    -- free: joined with both without a record left
    ∷ trial 2 (f 8192 4096 ∷ f 12289 4095 ∷ f 12288 1 ∷ []) (ok ∷ ok ∷ ok ∷ []) (at# 0 8192 16383 ∷ []) (at# 0 8192 16383 ∷ [])
    ∷ []

-- ---- the last bytes go out, and others come back

unfoldable pub emptied : List Trial
emptied =
    -- the only range, whole: allocated
    trial records (f 8192 8192 ∷ a 8192 0 ∷ l ∷ []) (ok ∷ at 8192 ∷ (0 ∷ 0 ∷ []) ∷ []) [] []
    -- the only range, whole: allocated, aligned
    ∷ trial records (f 4096 4096 ∷ a 4096 12 ∷ []) (ok ∷ at 4096 ∷ []) [] []
    -- the only range, whole, does not fit once it is rounded
    ∷ trial records (f 4096 4096 ∷ a 4096 13 ∷ []) (ok ∷ nay 3 ∷ []) (at# 0 4096 8191 ∷ []) (at# 0 4096 8191 ∷ [])
    -- the only range, whole: reserved
    ∷ trial records (f 8192 8192 ∷ r 8192 8192 0 ∷ []) (ok ∷ ok ∷ []) [] []
    -- the only range, whole: reserved once it is widened
    ∷ trial records (f 8192 8192 ∷ r 8193 8190 13 ∷ []) (ok ∷ ok ∷ []) [] []
    -- all addresses, reserved once they are widened to
    ∷ trial records (f 0 9223372036854775808 ∷ r 5 1 63 ∷ []) (ok ∷ ok ∷ []) [] []
    -- a single byte
    ∷ trial records (f 7 1 ∷ a 1 0 ∷ []) (ok ∷ at 7 ∷ []) [] []
    -- in two steps, the last of which leaves nothing, without a record left
    ∷ trial 1 (f 8192 8192 ∷ r 8193 8191 0 ∷ r 8192 1 0 ∷ []) (ok ∷ ok ∷ ok ∷ []) [] []
    -- an empty book refuses every take with 3, as it did at first
    ∷ trial records (f 4096 4096 ∷ a 4096 0 ∷ a 1 0 ∷ r 4096 1 0 ∷ r 0 1 0 ∷ []) (ok ∷ at 4096 ∷ nay 3 ∷ nay 3 ∷ nay 3 ∷ []) [] []
    -- the record is unused again: the next free has it
    ∷ trial 1 (f 4096 4096 ∷ a 4096 0 ∷ f 65536 1 ∷ []) (ok ∷ at 4096 ∷ ok ∷ []) (at# 0 65536 65536 ∷ []) (at# 0 65536 65536 ∷ [])
    -- one range is left, with the record that it has
    ∷ trial records (f 0 4096 ∷ f 65536 4096 ∷ r 0 4096 0 ∷ l ∷ []) (ok ∷ ok ∷ ok ∷ (1 ∷ 4096 ∷ 65536 ∷ 69631 ∷ []) ∷ []) (at# 1 65536 69631 ∷ []) (at# 1 65536 69631 ∷ [])
    -- the last range is handed back: it is there again, with record 0 where it had 1
    ∷ trial records (f 0 4096 ∷ f 65536 4096 ∷ r 0 4096 0 ∷ a 4096 0 ∷ f 65536 4096 ∷ l ∷ []) (ok ∷ ok ∷ ok ∷ at 65536 ∷ ok ∷ (1 ∷ 4096 ∷ 65536 ∷ 69631 ∷ []) ∷ [])
    (at# 0 65536 69631 ∷ []) (at# 0 65536 69631 ∷ [])
    ∷ []

-- ---- the search goes on where a record is wanted and all are used

unfoldable pub looked_on : List Trial
looked_on =
    -- all records used: past a range that would be split, to one in a later list
    trial 2 (f 1024 4096 ∷ f 65536 8192 ∷ a 512 12 ∷ []) (ok ∷ ok ∷ at 65536 ∷ []) (at# 0 1024 5119 ∷ at# 1 66048 73727 ∷ []) (at# 0 1024 5119 ∷ at# 1 66048 73727 ∷ [])
    -- all records used: past a range that would be split, to an older one of its size
    ∷ trial 2 (f 65536 4096 ∷ f 1024 4096 ∷ a 512 12 ∷ []) (ok ∷ ok ∷ at 65536 ∷ []) (at# 1 1024 5119 ∷ at# 0 66048 69631 ∷ []) (at# 0 66048 69631 ∷ at# 1 1024 5119 ∷ [])
    -- all records used: past two that would be split
    ∷ trial 3 (f 1024 4096 ∷ f 9216 4096 ∷ f 65536 8192 ∷ a 512 12 ∷ []) (ok ∷ ok ∷ ok ∷ at 65536 ∷ [])
    (at# 0 1024 5119 ∷ at# 1 9216 13311 ∷ at# 2 66048 73727 ∷ []) (at# 1 9216 13311 ∷ at# 0 1024 5119 ∷ at# 2 66048 73727 ∷ [])
    -- all records used: past a range that would be split, to a tail
    ∷ trial 2 (f 3 4 ∷ f 17 5 ∷ a 2 2 ∷ []) (ok ∷ ok ∷ at 20 ∷ []) (at# 0 3 6 ∷ at# 1 17 19 ∷ []) (at# 1 17 19 ∷ at# 0 3 6 ∷ [])
    -- a record is unused: the first range that fits is split, though a later one would not be
    ∷ trial 3 (f 1024 4096 ∷ f 65536 8192 ∷ a 512 12 ∷ []) (ok ∷ ok ∷ at 4096 ∷ [])
    (at# 0 1024 4095 ∷ at# 2 4608 5119 ∷ at# 1 65536 73727 ∷ []) (at# 2 4608 5119 ∷ at# 0 1024 4095 ∷ at# 1 65536 73727 ∷ [])
    -- all records used: of two that would not be split the first is taken
    ∷ trial 3 (f 1024 4096 ∷ f 65536 8192 ∷ f 131072 16384 ∷ a 512 12 ∷ []) (ok ∷ ok ∷ ok ∷ at 65536 ∷ [])
    (at# 0 1024 5119 ∷ at# 1 66048 73727 ∷ at# 2 131072 147455 ∷ []) (at# 0 1024 5119 ∷ at# 1 66048 73727 ∷ at# 2 131072 147455 ∷ [])
    -- all records used: two ranges fit, and both would be split
    ∷ trial 2 (f 1024 4096 ∷ f 9216 4096 ∷ a 512 12 ∷ []) (ok ∷ ok ∷ nay 1 ∷ []) (at# 0 1024 5119 ∷ at# 1 9216 13311 ∷ []) (at# 1 9216 13311 ∷ at# 0 1024 5119 ∷ [])
    -- all records used: it fits and would be split; it does not fit; an exact tail
    ∷ trial 1 (f 1024 4096 ∷ a 512 12 ∷ a 1025 12 ∷ a 1024 12 ∷ []) (ok ∷ nay 1 ∷ nay 3 ∷ at 4096 ∷ []) (at# 0 1024 4095 ∷ []) (at# 0 1024 4095 ∷ [])
    -- all records used: an order of 0 takes a front
    ∷ trial 1 (f 1024 4096 ∷ a 512 0 ∷ []) (ok ∷ at 1024 ∷ []) (at# 0 1536 5119 ∷ []) (at# 0 1536 5119 ∷ [])
    -- all records used: a reserve names its range, and looks no further
    ∷ trial 2 (f 1024 4096 ∷ f 65536 8192 ∷ r 4096 512 0 ∷ []) (ok ∷ ok ∷ nay 1 ∷ []) (at# 0 1024 5119 ∷ at# 1 65536 73727 ∷ []) (at# 0 1024 5119 ∷ at# 1 65536 73727 ∷ [])
    ∷ []

-- ---- bytes and vouchers

-- a history over few bytes, one call of each kind refused
unfoldable pub small : List Line
small = f 4 12 ∷ a 2 2 ∷ r 9 2 1 ∷ f 4 1 ∷ f 4 1 ∷ a 30 0 ∷ r 9 1 0 ∷ f 20 4 ∷ r 22 1 0 ∷ []

-- whether each of these bytes is free afterwards
unfoldable pub bytes : List ℕ
bytes = 3 ∷ 4 ∷ 5 ∷ 6 ∷ 7 ∷ 8 ∷ 9 ∷ 10 ∷ 11 ∷ 12 ∷ 15 ∷ 16 ∷ 20 ∷ 21 ∷ 22 ∷ 23 ∷ 24 ∷ []

unfoldable pub is_free : List Bool
is_free = false ∷ true ∷ false ∷ true ∷ true ∷ false ∷ false ∷ false ∷ false ∷ true ∷ true ∷ false ∷ true ∷ true ∷ false ∷ true ∷ false ∷ []

unfoldable pub by_book : List Line → List ℕ → List Bool
by_book ls xs = map (λ (x : ℕ). free_at (left 8 empty ls) x) xs

unfoldable pub by_vouchers : List Line → List ℕ → List Bool
by_vouchers ls xs = map (λ (x : ℕ). said false (last_covering x (vouchers_of 8 empty ls))) xs

-- one that takes all its bytes, and is given others; the bytes of both, before these come and after
unfoldable pub gone : List Line
gone = f 4 3 ∷ a 3 0 ∷ []

unfoldable pub returned : List Line
returned = f 4 3 ∷ a 3 0 ∷ f 6 2 ∷ []

unfoldable pub few : List ℕ
few = 3 ∷ 4 ∷ 5 ∷ 6 ∷ 7 ∷ 8 ∷ []

unfoldable pub gone_free : List Bool
gone_free = false ∷ false ∷ false ∷ false ∷ false ∷ false ∷ []

unfoldable pub returned_free : List Bool
returned_free = false ∷ false ∷ false ∷ true ∷ true ∷ false ∷ []

-- ---- sizes

unfoldable pub sizes : List ℕ
sizes = 0 ∷ 1 ∷ 4096 ∷ 4097 ∷ 8192 ∷ 8193 ∷ 16384 ∷ 4194304 ∷ 4194305 ∷ 9223372036854775808 ∷ []

unfoldable pub list_numbers : List ℕ
list_numbers = 0 ∷ 0 ∷ 0 ∷ 1 ∷ 1 ∷ 2 ∷ 2 ∷ 10 ∷ 11 ∷ 11 ∷ []

-- ranges on several lists, two of them on one
unfoldable pub several : List Line
several = f 0 8192 ∷ f 16384 4097 ∷ f 32768 1 ∷ f 65536 8388608 ∷ []
