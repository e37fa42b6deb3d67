-- The test of each record, and the count of those in use. n is the number of records. Assumes nothing.
use Rattle.std.specs.Prelude.{ℕ, zero, suc, ◌<◌, ◌≤◌, Bool, true, false, cond, ◌&&◌, List, ◌≡◌, eqb, leb, ltb, get_or, Option, Some, None}
use Rattle.linked_lists.specs.Links.{none, count}
use Rattle.rules.specs.Rules.{top}

-- a record in use holds a range below 2^63; an unused one is as in a new state
unfoldable pub proper : ℕ → ℕ → Bool
proper start end = leb start end && ltb end top

unfoldable pub unlinked : ℕ → ℕ → ℕ → ℕ → Bool
unlinked previous next lprev lnext = eqb previous none && (eqb next none && (eqb lprev none && eqb lnext none))

unfoldable pub record_ok : Bool → ℕ → ℕ → ℕ → ℕ → ℕ → ℕ → Bool
record_ok enabled start end previous next lprev lnext = cond enabled (proper start end) (eqb start 0 && (eqb end 0 && unlinked previous next lprev lnext))

-- all numbers below m pass the test
unfoldable pub all : (ℕ → Bool) → ℕ → Bool
all p zero = true
all p (suc m) = p m && all p m

abbrev pub record_at : List ℕ → List ℕ → List Bool → List ℕ → List ℕ → List ℕ → List ℕ → ℕ → Bool
record_at start end enabled previous next lprev lnext i =
    record_ok (get_or enabled i false) (get_or start i 0) (get_or end i 0) (get_or previous i 0) (get_or next i 0) (get_or lprev i 0) (get_or lnext i 0)

-- record i is in use
abbrev pub used : List Bool → ℕ → Bool
used enabled i = get_or enabled i false

-- how many records are in use, unless one is broken
unfoldable pub records : ℕ → List ℕ → List ℕ → List Bool → List ℕ → List ℕ → List ℕ → List ℕ → Option ℕ
records n start end enabled previous next lprev lnext = cond (all (record_at start end enabled previous next lprev lnext) n) (Some (count (used enabled) n)) None

-- the records in use hold ranges below 2^63
abbrev pub Proper : ℕ → List ℕ → List ℕ → List Bool → Type 0
Proper n start end enabled = (i : ℕ) → i < n → used enabled i ≡ true → (get_or start i 0 ≤ get_or end i 0) × (get_or end i 0 < top)
