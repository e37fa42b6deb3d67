-- The register of request T-07, to be read beside it. Its entries stand in a list, by number. Assumes nothing.
use Rattle.std.specs.Prelude.{Bool, true, cond, not, ◌&&◌, List, [], ◌∷◌, ℕ, zero, suc, leb, ltb, eqb}
use Rattle.rules.specs.Rules.{Range, range, start_of, size, before}
use Rattle.holder_rules.specs.declared.Entry.{Entry}

-- "up to 64 held ranges, holders 1 to 16"
abbrev pub entries : ℕ
entries = 64

abbrev pub holders : ℕ
holders = 16

abbrev pub known : ℕ → Bool
known h = leb 1 h && leb h holders

abbrev pub entry : ℕ → ℕ → ℕ → Entry
entry h a l = record { holder = record { 0 = h }; start = record { 0 = a }; last = record { 0 = l } }

-- nobody's, with no range: an entry that is not used
abbrev pub blank : Entry
blank = entry 0 0 0

abbrev pub used : Entry → Bool
used e = ltb 0 e.holder.0

unfoldable pub blanks : ℕ → List Entry
blanks zero = []
blanks (suc m) = blank ∷ blanks m

-- a held range; in the place of a record's number it has its holder's
abbrev pub range_of : Entry → Range
range_of e = range e.holder.0 e.start.0 e.last.0

unfoldable pub held : List Entry → List Range
held [] = []
held (e ∷ l) = cond (used e) (range_of e ∷ held l) (held l)

-- all entries are used
unfoldable pub full : List Entry → Bool
full [] = true
full (e ∷ l) = used e && full l

-- e in the place of the first entry that passes the test
unfoldable pub replace : (Entry → Bool) → Entry → List Entry → List Entry
replace p e [] = []
replace p e (q ∷ l) = cond (p q) (e ∷ l) (q ∷ replace p e l)

-- e in the lowest unused entry
abbrev pub free : Entry → Bool
free q = not (used q)

abbrev pub enter : Entry → List Entry → List Entry
enter e r = replace free e r

-- "exactly as handed to that holder": h's, with this first byte and this size
abbrev pub exactly : ℕ → ℕ → Range → Bool
exactly s z q = eqb q.start s && eqb (size q) z

abbrev pub yours : ℕ → ℕ → ℕ → Range → Bool
yours h s z q = eqb q.number h && exactly s z q

abbrev pub hands : ℕ → ℕ → ℕ → Entry → Bool
hands h s z q = used q && yours h s z (range_of q)

-- its entry is unused again
abbrev pub leave : ℕ → ℕ → ℕ → List Entry → List Entry
leave h s z r = replace (hands h s z) blank r

-- ---- "A holder's list of ranges", by address

unfoldable pub by_address : List Range → List Range
by_address [] = []
by_address (q ∷ l) = before start_of q (by_address l)

unfoldable pub those : (Range → Bool) → List Range → List Range
those p [] = []
those p (q ∷ l) = cond (p q) (q ∷ those p l) (those p l)

-- holder h's
abbrev pub of_holder : ℕ → Range → Bool
of_holder h q = eqb q.number h

abbrev pub list_of : ℕ → List Entry → List Range
list_of h r = by_address (those (of_holder h) (held r))
