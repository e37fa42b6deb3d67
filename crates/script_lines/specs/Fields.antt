-- The fields of a line, and the number that a field says: "fields split by one space, decimal without leading zeros, at most 2^64-1".
-- A line is the list of its bytes: 32 is a space, 48 to 57 are the digits.
use Rattle.std.specs.Prelude.{ℕ, ◌+◌, ◌-◌, ◌*◌, ◌^◌, Bool, true, false, not, cond, ◌&&◌, List, [], ◌∷◌, leb, ltb, eqb, Option, Some, None}

-- b in front of the first field
abbrev pub before : ℕ → List (List ℕ) → List (List ℕ)
before b [] = (b ∷ []) ∷ []
before b (f ∷ fs) = (b ∷ f) ∷ fs

-- what stands between the spaces: one field more than there are spaces, and an empty one beside a space that has no neighbour
unfoldable pub fields : List ℕ → List (List ℕ)
fields [] = [] ∷ []
fields (b ∷ l) = cond (eqb b 32) ([] ∷ fields l) (before b (fields l))

abbrev pub digit : ℕ → Bool
digit b = leb 48 b && leb b 57

unfoldable pub digits : List ℕ → Bool
digits [] = true
digits (b ∷ l) = digit b && digits l

-- one digit, or several that do not begin with a zero
unfoldable pub leads : List ℕ → Bool
leads [] = false
leads (b ∷ []) = true
leads (b ∷ c ∷ l) = not (eqb b 48)

-- the number that the digits l say after those of n
unfoldable pub value : ℕ → List ℕ → ℕ
value n [] = n
value n (b ∷ l) = value (n * 10 + (b - 48)) l

unfoldable pub number_of : List ℕ → Option ℕ
number_of l = cond (leads l && (digits l && ltb (value 0 l) (2 ^ 64))) (Some (value 0 l)) None

abbrev pub join : Option ℕ → Option (List ℕ) → Option (List ℕ)
join None r = None
join (Some n) None = None
join (Some n) (Some ns) = Some (n ∷ ns)

-- the numbers of all fields; none where one field is no number
unfoldable pub numbers_of : List (List ℕ) → Option (List ℕ)
numbers_of [] = Some []
numbers_of (f ∷ fs) = join (number_of f) (numbers_of fs)
