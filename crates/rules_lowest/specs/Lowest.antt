-- Request T-08 of document 02, to be read beside it: the lowest figure, the least total seen after any accepted call since the first
-- accepted free. n is the number of records. Assumes nothing.
use Rattle.std.specs.Prelude.{Bool, cond, ◌&&◌, ◌||◌, List, [], ◌∷◌, ℕ, ◌+◌, ◌-◌, ◌^◌, leb, ltb, eqb}
use Rattle.rules.specs.Rules.{Book, empty, total, Call, step, Voucher, frees, from, past}

-- before the first accepted free
abbrev pub never : ℕ
never = 2 ^ 64 - 1

abbrev pub less : ℕ → ℕ → ℕ
less x y = cond (ltb x y) x y

-- the figure after a call that was answered with this number and left this total: if it was accepted, the less of the two
abbrev pub noted : ℕ → ℕ → ℕ → ℕ
noted number total low = cond (eqb number 0) (less total low) low

-- the figure may stand beside a total: it is not above it, or it is 2^64-1 and nothing is free
abbrev pub low_sound : ℕ → ℕ → Bool
low_sound total low = leb low total || (eqb total 0 && eqb low never)

-- ---- what is carried: the free ranges, and the figure

pub record Account : Type 0 where
  pub book : Book
  pub low : ℕ

abbrev pub opened : Account
opened = record { book = empty; low = never }

-- what a call makes of it
abbrev pub entered : ℕ → Call → Account → Account
entered n c a = record { book = (step n c a.book).book; low = noted (step n c a.book).number (total (step n c a.book).book) a.low }

-- ---- the figure, counted from the calls and their answers alone

-- the bytes that a call covers
abbrev pub covered : Voucher → ℕ
covered v = past v.call v.address - from v.call v.address

-- the sum after an accepted call: a free adds its bytes, a take subtracts those that it covers
abbrev pub counted : ℕ → Voucher → ℕ
counted t v = cond (frees v.call) (t + covered v) (t - covered v)

-- the sums after each accepted call, from the sum t on
unfoldable pub sums : ℕ → List Voucher → List ℕ
sums t [] = []
sums t (v ∷ vs) = cond (eqb v.number 0) (counted t v ∷ sums (counted t v) vs) (sums t vs)

-- the least of m and of the numbers
unfoldable pub least : ℕ → List ℕ → ℕ
least m [] = m
least m (x ∷ xs) = least (less x m) xs
