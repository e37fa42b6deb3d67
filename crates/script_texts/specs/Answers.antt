-- The texts of the answers, as bytes, and what writing one into a buffer leaves. 32 is a space, 10 a newline.
use Rattle.std.specs.Prelude.{◌≡◌, ℕ, zero, suc, ◌+◌, ◌/◌, ◌%◌, Bool, cond, List, [], ◌∷◌, ◌++◌, leb, ltb, length, take, drop}

-- the digits of n / 10, then the last one; the first number counts down, and n is enough
unfoldable pub digits_in : ℕ → ℕ → List ℕ
digits_in zero n = (48 + n) ∷ []
digits_in (suc k) n = cond (ltb n 10) ((48 + n) ∷ []) (digits_in k (n / 10) ++ ((48 + n % 10) ∷ []))

-- n in decimal
unfoldable pub digits_of : ℕ → List ℕ
digits_of n = digits_in n n

-- a number that ends its line
unfoldable pub ending : ℕ → List ℕ
ending n = digits_of n ++ (10 ∷ [])

-- `ok`
abbrev pub ok_text : List ℕ
ok_text = 111 ∷ 107 ∷ 10 ∷ []

-- `bad`
abbrev pub bad_text : List ℕ
bad_text = 98 ∷ 97 ∷ 100 ∷ 10 ∷ []

-- `ok` and the address
abbrev pub ok_at : ℕ → List ℕ
ok_at a = (111 ∷ 107 ∷ 32 ∷ []) ++ ending a

-- `no` and the number
abbrev pub no_text : ℕ → List ℕ
no_text k = (110 ∷ 111 ∷ 32 ∷ []) ++ ending k

-- a range's start and last byte
abbrev pub range_text : ℕ → ℕ → List ℕ
range_text s l = digits_of s ++ ((32 ∷ []) ++ ending l)

-- `list`, the number of ranges and the total
abbrev pub list_text : ℕ → ℕ → List ℕ
list_text count total = (108 ∷ 105 ∷ 115 ∷ 116 ∷ 32 ∷ []) ++ range_text count total

-- ---- a text t in a buffer l, at the place `at`: all of it, or nothing where it does not fit

abbrev pub fits : List ℕ → List ℕ → ℕ → Bool
fits t l at = leb (at + length t) (length l)

unfoldable pub written : List ℕ → List ℕ → ℕ → List ℕ
written t l at = cond (fits t l at) (take at l ++ (t ++ drop (at + length t) l)) l

unfoldable pub past : List ℕ → List ℕ → ℕ → ℕ
past t l at = cond (fits t l at) (at + length t) at

-- the buffer was l and is m, and r is returned
pub record Puts (t l : List ℕ) (at : ℕ) (m : List ℕ) (r : ℕ) : Type 0 where
  pub bytes : m ≡ written t l at
  pub next : r ≡ past t l at
