-- A line in any forms, which say what a letter with its numbers stands for: fields split by one space, the first a letter, the others numbers, at most 80 bytes;
-- any other line is bad. Assumes nothing.
use Rattle.std.specs.Prelude.{ℕ, cond, List, [], ◌∷◌, leb, length, Option, Some, None}
use Rattle.script_lines.specs.Fields.{fields, numbers_of}

-- the byte of a field of one byte; 0, which is no letter, of any other
abbrev pub letter_of : List ℕ → ℕ
letter_of [] = 0
letter_of (b ∷ []) = b
letter_of (b ∷ c ∷ l) = 0

unfoldable pub spoken_in : {A : Type 0} → (ℕ → List ℕ → A) → A → ℕ → Option (List ℕ) → A
spoken_in said bad c None = bad
spoken_in said bad c (Some ns) = said c ns

abbrev pub fields_in : {A : Type 0} → (ℕ → List ℕ → A) → A → List (List ℕ) → A
fields_in said bad [] = bad
fields_in said bad (name ∷ fs) = spoken_in said bad (letter_of name) (numbers_of fs)

unfoldable pub line_in : {A : Type 0} → (ℕ → List ℕ → A) → A → List ℕ → A
line_in said bad l = cond (leb (length l) 80) (fields_in said bad (fields l)) bad
