-- Numbers in bytes, the most significant first. Assumes nothing.
use Rattle.std.specs.Prelude.{ℕ, zero, suc, ◌+◌, ◌*◌, ◌/◌, ◌%◌, ◌<◌, List, [], ◌∷◌, ◌++◌, length, get_or}

-- x in k bytes
unfoldable pub be : ℕ → ℕ → List ℕ
be zero x = []
be (suc k) x = be k (x / 256) ++ (x % 256 ∷ [])

-- the number that goes on from x with the bytes of l
unfoldable pub more : ℕ → List ℕ → ℕ
more x [] = x
more x (b ∷ l) = more (x * 256 + b) l

-- the number in the bytes of l
abbrev pub number : List ℕ → ℕ
number l = more 0 l

-- each number of l is a byte
abbrev pub Bytes : List ℕ → Type 0
Bytes l = (i : ℕ) → i < length l → get_or l i 0 < 256
