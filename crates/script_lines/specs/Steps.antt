-- What the functions below `parse_line` answer, by the definitions of Fields and Script.
use Rattle.std.specs.Prelude.{ℕ, ◌^◌, cond, ◌&&◌, List, [], ◌∷◌, ltb, length, drop, Option, Some, None, unwrap_or}
use Rattle.script_lines.specs.Fields.{fields, digits, value, number_of}
use Rattle.script_lines.specs.Search.{first_in}
use Rattle.script_lines.specs.declared.parse.Field.{Field}

-- the digits l after those of n, where all are digits and the number is below 2^64
unfoldable pub value_from : ℕ → List ℕ → Option ℕ
value_from n l = cond (digits l && ltb (value n l) (2 ^ 64)) (Some (value n l)) None

-- the place of the first space from `at` on, or the line's end
abbrev pub field_end_lem : List ℕ → ℕ → ℕ
field_end_lem l at = unwrap_or (first_in 32 at (length l) l) (length l)

abbrev pub first : List (List ℕ) → List ℕ
first [] = []
first (f ∷ fs) = f

abbrev pub ended : ℕ → Option ℕ → Option Field
ended e None = None
ended e (Some n) = Some (record { value = n; end = e })

-- the number of the field at a place, with the field's end
unfoldable pub field_at : List ℕ → ℕ → Option Field
field_at l at = ended (field_end_lem l at) (number_of (first (fields (drop at l))))
